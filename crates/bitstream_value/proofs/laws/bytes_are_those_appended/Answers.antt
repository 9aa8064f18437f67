use Rattle.bitstream_value.proofs.ByteTypeLemmas.{counted_as_appended}
use Rattle.bitstream_value.proofs.laws.bytes_are_those_appended.Goals as goal

pub returns : goal.returns
returns g c = λ value old new bytes n one written counted far.
    counted_as_appended g.W.ByteWrite.sink g.C.Counter.value g.C.Counter.greatest _
    (λ o. g.T.ToByteStream.writes o value) _ old new bytes n one written counted far
