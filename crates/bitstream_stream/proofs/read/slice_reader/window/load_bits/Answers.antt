use Rattle.std.proofs.Common.{arith}
use Rattle.bitstream_stream.proofs.Reading.MemoryWindows.{first_agree, eight_agree}
use Rattle.bitstream_stream.proofs.read.slice_reader.window.load_bits.Goals as goal

pub returns-then-constant-clause-some : goal.returns-then-constant-clause-some
returns-then-constant-clause-some g c = (
  omega (arith, c.if-bytes-need.false),
  first_agree g.E.Endianness.order c.args.bytes.now _ c.args.total c.load_exact.result (omega (arith, c.if-bytes-need.false))
      (omega arith) (omega (arith, c.requires)) c.load_exact.ensures,
)

pub returns-then-bytes-ge8-clause-some : goal.returns-then-bytes-ge8-clause-some
returns-then-bytes-ge8-clause-some g c = (
  omega (arith, c.if-bytes-ge8.true, c.requires),
  eight_agree g.E.Endianness.order c.args.bytes.now c.args.total c.load_eight.result c.requires
      (omega (arith, c.if-bytes-ge8.true, c.requires)) c.load_eight.ensures,
)

pub returns-clause-some : goal.returns-clause-some
returns-clause-some g c = (
  omega (arith, c.if-bytes-need-2.false),
  eight_agree g.E.Endianness.order c.args.bytes.now c.args.total c.load_padded.result c.requires
      (omega (arith, c.if-bytes-need-2.false)) c.load_padded.ensures,
)
