use Rattle.std.proofs.Common.{arith, ◌≡◌, ◌*◌, length, length-take-le, sym, ap, ◌∙◌}
use Rattle.bitstream_number.specs.Word.{bits}
use Rattle.bitstream_order.proofs.Moving.SendLemmas.{sends_bytes, prefix_bytes, sends_refused}
use Rattle.bitstream_order.proofs.kernels.send.send_prefix.Goals as goal

pub returns-in-Ok-clause-sends : goal.returns-in-Ok-clause-sends
returns-in-Ok-clause-sends g c =
    let bytes = c.as_bytes.result.now in
    let same = c.as_bytes.ensures in
    let long : g.U.Numeric.BITS_SIZE ≡ 8 * length bytes = g.met.U.Numeric.size_law
    ∙ ap (λ n. 8 * n) (sym c.to_bytes-bytes.ensures.len ∙ ap length (sym same)) in
    sends_bytes _ _ _ _ _ _ c.in-Ok.ensures
    (prefix_bytes g.E.Endianness.order c.args.queued c.args.queue c.args.n (g.U.UnsignedInteger.value c.args.value)
    g.U.Numeric.BITS_SIZE _ _ bytes
    c.requires.few c.requires.full c.requires.room long c.to_front.ensures c.behind.ensures
    (ap (bits g.E.Endianness.order) same ∙ c.to_bytes-bytes.ensures.bits))

pub returns-in-Err-clause-sends : goal.returns-in-Err-clause-sends
returns-in-Err-clause-sends g c =
    let long : g.U.Numeric.BITS_SIZE ≡ 8 * length c.as_bytes.result.now =
    g.met.U.Numeric.size_law ∙ ap (λ n. 8 * n) (sym c.to_bytes-bytes.ensures.len ∙ ap length (sym c.as_bytes.ensures))
    in
    let room = c.requires.room in
    sends_refused _ g.E.Endianness.order c.args.queued c.args.queue c.args.n (g.U.UnsignedInteger.value c.args.value) _
    _ _ _ (length-take-le _ _ (omega arith)) c.in-Err.ensures
