use Rattle.std.proofs.Common.{arith, ◌≡◌, ℕ, ◌≤◌, ◌+◌, Ok, Err, refl, sym, ap, ◌∙◌}
use Rattle.bitstream_order.specs.Parts.{put_number}
use Rattle.bitstream_order.specs.Refusal.{MayRefuseWrite}
use Rattle.bitstream_stream.specs.Writing.Carries.{WriterState}
use Rattle.bitstream_stream.specs.Groups.{IsFirstGroup}
use Rattle.bitstream_stream.specs.Writing.Sink.{Sink}
use Rattle.bitstream_stream.specs.Writing.Writer.{writer_state, queue_sink, writer_sink}
use Rattle.bitstream_stream.proofs.Writing.SinkLemmas.{fails, inner}
use Rattle.bitstream_stream.proofs.Shared.{exit_is}
use Rattle.bitstream_stream.proofs.Writing.VbrWrites.{GroupsGathered, group-pushed, none_pushed, gathered-start, gathered-more, gathered-sent, gathered-stop, gathered-none, gathered-below, gathered-last}
use Rattle.bitstream_stream.proofs.write.writer.BitWriterBitWrite.write_unsigned_vbr.Given.{Over}
use Rattle.bitstream_stream.proofs.write.writer.BitWriterBitWrite.write_unsigned_vbr.Goals.{After-BITS-bits}
use Rattle.bitstream_stream.proofs.write.writer.BitWriterBitWrite.write_unsigned_vbr.Goals as goal

abbrev sink : Over → Sink WriterState
sink g = queue_sink (MayRefuseWrite g.W.Target.stream) g.E.Endianness.order

-- the group is gathered after the others
gathered : (g : Over) (c : After-BITS-bits g) (group next : ℕ)
    → IsFirstGroup g.F.Width.BITS (g.U.UnsignedInteger.value c.loop-group.rest) group next
    → g.U.UnsignedInteger.value c.put-word.result ≡ put_number g.E.Endianness.order
    (g.U.UnsignedInteger.value c.loop-group.word) c.loop-group.bits group c.BITS.result
    → GroupsGathered (sink g) g.F.Width.BITS (g.U.UnsignedInteger.value c.args.value)
    (writer_state g.W.Target.stream c.args.self.now) next
    (writer_state g.W.Target.stream c.loop-group.self)
    (c.loop-group.bits + c.BITS-bits.result) (g.U.UnsignedInteger.value c.put-word.result)
gathered g c group next first put =
    let wide = ap (put_number g.E.Endianness.order _ c.loop-group.bits group) (c.BITS.ensures
    ∙ sym c.BITS-bits.ensures) in
    gathered-more (sink g) g.F.Width.BITS g.U.Numeric.BITS_SIZE _ (omega (arith, c.requires.within)) _ _ _ _ _
    c.loop-group.invariant.groups _ group next _ c.BITS-bits.ensures first (put ∙ wide)

-- there was room for it
room : (g : Over) (c : After-BITS-bits g) → c.loop-group.bits + c.BITS-bits.result ≤ g.U.Numeric.BITS_SIZE
room g c =
    omega (arith, c.loop-group.invariant.room, c.BITS-bits.ensures)

pub returns-then-self : goal.returns-then-self
returns-then-self g c =
    record {
      writes = fails (writer_sink g.W.Target.stream
          g.E.Endianness.order) _ _ _ c.if-self.true refl;
    }

pub loop-group-init : goal.loop-group-init
loop-group-init g c =
    let may = MayRefuseWrite g.W.Target.stream in
    let o = g.E.Endianness.order in
    let within = c.requires.within in
    record {
      room = omega (arith, within);
      groups = gathered-start (queue_sink may o) g.F.Width.BITS g.U.Numeric.BITS_SIZE _ (omega (arith, within)) _ _ _
          (ap g.U.UnsignedInteger.value c.ZERO-word.ensures ∙ g.met.U.UnsignedInteger.ZERO_value_law)
          (none_pushed may o _ c.if-self.false);
    }

pub put-word-requires-clause-small : goal.put-word-requires-clause-small
put-word-requires-clause-small g c = rw c.BITS.ensures c.in-Some.ensures.first.fits

pub returns-in_err-push : goal.returns-in_err-push
returns-in_err-push g c =
    let at = (goal.at.returns-in_err-push g c).After-BITS-bits in
    let before = gathered g at _ _ c.in-Some.ensures.first c.put-word.ensures in
    let written = group-pushed _ _ _ _ _ _ _ (Err _) _ refl (room g at) before.below
    c.loop-group.invariant.groups.done.done.sound c.in_err-push.ensures.pushes in
    record {
      writes = inner (writer_state g.W.Target.stream) (sink g) _ _ _ _
          (gathered-stop (sink g) g.F.Width.BITS g.U.Numeric.BITS_SIZE _ (omega (arith, c.requires.within)) _ _ _ _ _
          before _ _ _ _ (room g at) written refl (exit_is _ c.from_residual.ensures.1) tt);
    }

pub loop-group-preserved-then-bits-most : goal.loop-group-preserved-then-bits-most
loop-group-preserved-then-bits-most g c =
    let at = (goal.at.loop-group-preserved-then-bits-most g c).After-BITS-bits in
    let within = c.requires.within in
    let before = gathered g at _ _ c.in-Some.ensures.first c.put-word.ensures in
    let none = ap g.U.UnsignedInteger.value c.ZERO-word-then-bits-most.ensures
    ∙ g.met.U.UnsignedInteger.ZERO_value_law in
    let written = group-pushed _ _ _ _ _ _ _ (Ok _) _ refl (room g at) before.below
    c.loop-group.invariant.groups.done.done.sound c.in_ok-push.ensures.pushes in
    record {
      room = omega (arith, within);
      groups = gathered-sent (sink g) g.F.Width.BITS g.U.Numeric.BITS_SIZE _ (omega (arith, within)) _ _ _ _ _ before _
          _ _ _ none (room g at) written refl;
    }

pub loop-group-preserved : goal.loop-group-preserved
loop-group-preserved g c =
    record {
      room = omega (arith, c.if-bits-most.false, c.most_gathered-most.ensures);
      groups =
          gathered g (goal.at.loop-group-preserved g c).After-BITS-bits _ _ c.in-Some.ensures.first c.put-word.ensures;
    }

pub returns-then-bits-eq0 : goal.returns-then-bits-eq0
returns-then-bits-eq0 g c =
    let field = g.F.Width.BITS in
    let size = g.U.Numeric.BITS_SIZE in
    let within : field ≤ size = omega (arith, c.requires.within) in
    let inv = c.loop-group.invariant in
    let final = c.in_default.ensures.last refl in
    let written = group-pushed _ _ field size _ _ _ _ _ c.BITS-then-bits-eq0.ensures within final.fits
    inv.groups.done.done.sound c.push-then-bits-eq0.ensures.pushes in
    record {
      writes = inner (writer_state g.W.Target.stream) (sink g) _ _ _ _
          (gathered-none (sink g) field size _ within _ _ _ _ _ inv.groups _ _ c.if-bits-eq0.true final written tt);
    }

pub put-requires-clause-small : goal.put-requires-clause-small
put-requires-clause-small g c = rw c.BITS-else-bits-eq0.ensures (c.in_default.ensures.last refl).fits

pub returns-else-bits-eq0 : goal.returns-else-bits-eq0
returns-else-bits-eq0 g c =
    let field = g.F.Width.BITS in
    let size = g.U.Numeric.BITS_SIZE in
    let within : field ≤ size = omega (arith, c.requires.within) in
    let inv = c.loop-group.invariant in
    let final = c.in_default.ensures.last refl in
    let put = c.put.ensures ∙ ap (put_number g.E.Endianness.order _ c.loop-group.bits _) (c.BITS-else-bits-eq0.ensures
    ∙ sym c.BITS-else-bits-eq0-2.ensures) in
    let step = c.BITS-else-bits-eq0-2.ensures in
    let room : c.loop-group.bits + c.BITS-else-bits-eq0-2.result ≤ size = omega (arith, inv.room, step) in
    let below = gathered-below (sink g) field size _ within _ _ _ _ _ inv.groups _ _ step final put in
    let written = group-pushed _ _ _ size _ _ _ _ _ refl room below inv.groups.done.done.sound
    c.push-else-bits-eq0.ensures.pushes in
    record {
      writes = inner (writer_state g.W.Target.stream) (sink g) _ _ _ _
          (gathered-last (sink g) field size _ within _ _ _ _ _ inv.groups _ _ _ _ step final put room written tt);
    }
