use Rattle.bitstream_stream.proofs.bytes.byte_reader.ByteReaderByteRead.read_as.Goals as goal

pub returns : goal.returns
returns g c = record { reads = rw c.value_of_bytes.ensures c.in_ok-bytes.ensures.reads }
