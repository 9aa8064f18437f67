use Rattle.bitstream_stream.proofs.bytes.byte_writer.ByteWriterByteWrite.write_as.Goals as goal

pub returns : goal.returns
returns g c = record {
  writes = rw (c.as_bytes.ensures, c.value_to_bytes-bytes.ensures.bytes)
      at c.write_bytes.ensures.writes;
}
