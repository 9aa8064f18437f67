use Rattle.bitstream_order.proofs.Streaming.SliceMutLemmas.{slice_lacks_room}
use Rattle.bitstream_stream.proofs.laws.slices_tell_their_room.Goals as goal

pub returns : goal.returns
returns g c = slice_lacks_room
