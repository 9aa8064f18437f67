use Rattle.std.proofs.Common.{◌≡◌, length, ap, ◌∙◌}
use Rattle.bitstream_stream.proofs.bytes.byte_read.ByteRead.read_to_bytes.Goals as goal

pub returns : goal.returns
returns g c =
    let size : length c.as_bytes_mut.result.now ≡ g.V.Primitive.BYTES = ap length c.as_bytes_mut.ensures.value
    ∙ c.buffer-bytes.ensures in
    record { reads = rw (g.met.V.Bytes.Buffer.items_law c.read_bytes.new.buf, ← size) c.in_ok-read_bytes.ensures.reads }
