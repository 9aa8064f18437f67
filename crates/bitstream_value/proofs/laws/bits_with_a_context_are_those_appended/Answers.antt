use Rattle.bitstream_value.proofs.LengthLemmas.{counted_as_appended}
use Rattle.bitstream_value.proofs.laws.bits_with_a_context_are_those_appended.Goals as goal

pub returns : goal.returns
returns g c = λ value context old new bits n one aligned written counted far. counted_as_appended g.W.BitWrite.sink
    g.C.Counter.value g.C.Counter.greatest _ (λ o. g.T.ToBitStreamWith.writes o value context) _ old new bits n one
    aligned written counted far
