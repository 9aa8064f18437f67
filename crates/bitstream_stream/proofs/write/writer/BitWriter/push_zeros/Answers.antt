use Rattle.std.proofs.Common.{rules, ◌≡◌, ◌+◌, ◌*◌, Ok, Err, refl, arith}
use Rattle.bitstream_order.specs.Refusal.{MayRefuseWrite}
use Rattle.bitstream_stream.specs.Writing.Writer.{queue_sink}
use Rattle.bitstream_stream.proofs.Writing.BytesWritten.{appended_none, zeros-piece, zeros-all, zeros-stop}
use Rattle.bitstream_stream.proofs.write.writer.BitWriter.push_zeros.Goals as goal

pub loop-left-init : goal.loop-left-init
loop-left-init g c = (
  0,
  omega arith,
  appended_none (queue_sink (MayRefuseWrite g.W.Target.stream)
      g.E.Endianness.order) _ c.requires,
)

pub returns-in_err-push_bytes : goal.returns-in_err-push_bytes
returns-in_err-push_bytes g c =
    let k = c.loop-left.invariant.0 in
    let piece = c.min-piece.result in
    zeros-stop _ g.E.Endianness.order (8 * (k + piece)) (8 * c.args.bytes) _ _ _ c.from_residual.result
    c.from_residual.ensures.1 (omega (arith, c.loop-left.invariant.1, c.min-piece.ensures))
    (zeros-piece _ _ k piece 1024 (k + piece) _ _ _ (Err _) (search rules) refl c.loop-left.invariant.2
    c.in_err-push_bytes.ensures.pushes)

pub loop-left-preserved : goal.loop-left-preserved
loop-left-preserved g c =
    let k = c.loop-left.invariant.0 in
    let piece = c.min-piece.result in (
      k + piece,
      omega (arith, c.loop-left.invariant.1, c.min-piece.ensures),
      zeros-piece _ g.E.Endianness.order k piece 1024 (k + piece) _ _ _ (Ok tt) (search rules) refl
          c.loop-left.invariant.2 c.in_ok-push_bytes.ensures.pushes,
    )

pub returns : goal.returns
returns g c =
    let k = c.loop-left.invariant.0 in
    let all : k ≡ c.args.bytes = omega (arith, c.loop-left-test.false, c.loop-left.invariant.1) in
    zeros-all _ g.E.Endianness.order k c.args.bytes _ _ all c.loop-left.invariant.2
