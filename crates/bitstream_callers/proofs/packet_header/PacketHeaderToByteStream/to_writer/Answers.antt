use Rattle.bitstream_io.proofs.ByteTypeLemmas.{plainly_written, few_byte_writes}
use Rattle.bitstream_callers.proofs.packet_header.PacketHeaderToByteStream.to_writer.Goals as goal

pub returns-in_err-write : goal.returns-in_err-write
returns-in_err-write g c = search (plainly_written, few_byte_writes) depth 12

pub returns : goal.returns
returns g c = search (plainly_written, few_byte_writes) depth 12
