use Rattle.bitstream_stream.proofs.Writing.RoomLemmas.{room-bytes}
use Rattle.bitstream_stream.proofs.laws.rooms_of_bytes_are_known.Goals as goal

pub returns : goal.returns
returns g c = room-bytes g.W.ByteWrite.sink
