use Rattle.bitstream_order.specs.Port.{port_stream}
use Rattle.bitstream_stream.proofs.Reading.SeekLemmas.{slice_tells}
use Rattle.bitstream_stream.proofs.laws.slices_tell_their_rest.Goals as goal

pub returns : goal.returns
returns g c = λ r. slice_tells (port_stream r.port)
