use Rattle.std.proofs.Common.{rules, arith, ◌≡◌, ◌+◌, ◌-◌, length, refl, sym, ap, ◌∙◌}
use Rattle.bitstream_order.specs.Refusal.{MayRefuseWrite}
use Rattle.bitstream_stream.specs.Writing.Writer.{queue_sink, requests_made}
use Rattle.bitstream_stream.proofs.PieceCounts.{reaches-none, reaches-more, pieces-all}
use Rattle.bitstream_stream.proofs.Writing.BytesWritten.{appended_none, appended_part, pushes_stop}
use Rattle.bitstream_stream.proofs.write.writer.BitWriter.send_pieces.Goals as goal

pub loop-at-init : goal.loop-at-init
loop-at-init g c = (
  0,
  record {
    within = omega arith;
    written = appended_none (queue_sink (MayRefuseWrite g.W.Target.stream) g.E.Endianness.order) _
        c.requires.sound;
    queued = refl;
    requests = omega arith;
    reaches = reaches-none g.row.N (length c.args.bytes.now) c.requires.some;
  },
)

pub whole_as_front-piece : goal.whole_as_front-piece
whole_as_front-piece g c =
    (omega (arith, c.min.ensures), omega (arith, c.requires.few))

pub returns-in_err-send_shifted-clause-pushes : goal.returns-in_err-send_shifted-clause-pushes
returns-in_err-send_shifted-clause-pushes g c =
    pushes_stop _ g.E.Endianness.order _ _ _ c.loop-at.at _ c.args.bytes.now c.copy_from_slice.new.self _
    c.from_residual.result c.from_residual.ensures.1 c.copy_from_slice.ensures.after c.loop-at.invariant.1.written
    c.in_err-send_shifted.ensures.pushes

pub loop-at-preserved : goal.loop-at-preserved
loop-at-preserved g c =
    let at = c.loop-at.at in
    let n = c.min.result in
    let bytes = c.args.bytes.now in
    let k = c.loop-at.invariant.0 in
    let inv = c.loop-at.invariant.1 in
    let step : at + n - at ≡ n = omega arith in (
      k + 1,
      record {
        within = search rules;
        written = appended_part _ g.E.Endianness.order _ _ _ at n (at + n - at) bytes c.copy_from_slice.new.self step
            c.copy_from_slice.ensures.after inv.written c.in_ok-send_shifted.ensures.pushes;
        queued = c.in_ok-send_shifted.ensures.queued ∙ inv.queued;
        requests = search rules;
        reaches = reaches-more g.row.N k at (length bytes) (at + n) c.requires.some c.loop-at-test.true
            (ap (λ m. at + m) c.min.ensures) inv.reaches;
      },
    )

pub returns-clause-asks : goal.returns-clause-asks
returns-clause-asks g c =
    let inv = c.loop-at.invariant.1 in
    let all = pieces-all g.row.N c.args.self.now.queued c.loop-at.invariant.0 (length c.args.bytes.now) c.loop-at.at
    (λ none. let some = c.requires.queued in omega (arith, none, some)) c.loop-at-test.false inv.within
    inv.reaches in
    inv.requests ∙ ap (λ n. requests_made c.args.self.now + n) (sym all)
