use Rattle.std.proofs.Common.{arith, ◌≡◌, ◌+◌, length, ◌∙◌, ◌-◌, ap, take, drop}
use Rattle.bitstream_number.proofs.Bytes.{AreBytes-from}
use Rattle.bitstream_stream.proofs.Reading.MemoryBytes.{bytes_read, bytes_refused, shifted_bits}
use Rattle.bitstream_stream.proofs.read.slice_reader.SliceReader.read_shifted.Goals as goal

pub returns-then-bytes-count-clause-reads : goal.returns-then-bytes-count-clause-reads
returns-then-bytes-count-clause-reads g c =
    rw c.refuse.ensures.error
    (bytes_refused g.E.Endianness.order (length c.args.buf.now) c.args.self.now _ c.requires.fine
    (omega (arith, c.if-bytes-count.true, c.requires.some)) c.refuse.ensures.state)

pub returns-clause-reads : goal.returns-clause-reads
returns-clause-reads g c =
    let made = c.shift-left.new.bytes in
    let sum : length c.args.buf.now + 1 - 1 ≡ length c.args.buf.now = omega arith in
    let len = c.shift-left.ensures.len ∙ c.copy_from_slice.ensures.len in
    bytes_read g.E.Endianness.order (length c.args.buf.now) made c.args.self.now _ c.requires.fine
    (AreBytes-from made (λ i. (c.type_inv.buf i).fits)) len
    (shifted_bits g.E.Endianness.order c.args.self.now.bytes.now c.copy_from_slice.new.self made c.args.self.now.bit
    (length c.args.buf.now) c.rest.result c.first-queue.result c.shift-left.result c.requires.some c.args.self.now.few
    (omega (arith, c.if-bytes-count.false)) c.rest.ensures c.first-queue.ensures.value
    (c.copy_from_slice.ensures.after ∙ ap (λ n. take n (drop 1 c.args.self.now.bytes.now)) sum) len
    c.shift-left.ensures.shifts) c.go_bytes.ensures
