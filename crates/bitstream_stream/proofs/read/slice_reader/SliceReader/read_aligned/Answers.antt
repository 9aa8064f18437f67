use Rattle.std.proofs.Common.{arith, length}
use Rattle.bitstream_number.proofs.Bytes.{AreBytes-from}
use Rattle.bitstream_stream.proofs.Reading.MemoryBytes.{bytes_read, bytes_refused, aligned_bits}
use Rattle.bitstream_stream.proofs.read.slice_reader.SliceReader.read_aligned.Goals as goal

pub returns-then-bytes-count-clause-reads : goal.returns-then-bytes-count-clause-reads
returns-then-bytes-count-clause-reads g c =
    rw c.refuse.ensures.error
    (bytes_refused g.E.Endianness.order (length c.args.buf.now) c.args.self.now _ c.requires.fine
    (omega (arith, c.if-bytes-count.true)) c.refuse.ensures.state)

pub returns-clause-reads : goal.returns-clause-reads
returns-clause-reads g c =
    let made = c.copy_from_slice.new.self in
    bytes_read g.E.Endianness.order (length c.args.buf.now) made c.args.self.now _ c.requires.fine
    (AreBytes-from made (λ i. (c.type_inv.buf i).fits)) c.copy_from_slice.ensures.len
    (aligned_bits g.E.Endianness.order c.args.self.now.bytes.now made c.args.self.now.bit (length c.args.buf.now)
    c.requires.none c.if-bytes-count.false c.copy_from_slice.ensures.after) c.go_bytes.ensures
