use Rattle.bitstream_value.proofs.ByteTypeLemmas.{counted_as_appended}
use Rattle.bitstream_value.proofs.laws.bytes_with_a_context_are_those_appended.Goals as goal

pub returns : goal.returns
returns g c = λ value context old new bytes n one written counted far.
    counted_as_appended g.W.ByteWrite.sink g.C.Counter.value g.C.Counter.greatest _
    (λ o. g.T.ToByteStreamWith.writes o value context) _ old new bytes n one written counted far
