use Rattle.bitstream_stream.proofs.Reading.EnoughLemmas.{Reads-enough}
use Rattle.bitstream_stream.proofs.laws.enough_bits_are_known.Goals as goal

pub returns : goal.returns
returns g c entry n left old new answer = Reads-enough n left
