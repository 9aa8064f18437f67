use Rattle.std.proofs.Common.{◌∙◌, ◌+◌, ◌*◌, sym, ap, refl, rules, subst}
use Rattle.bitstream_io.specs.Lent.{lent_output}
use Rattle.bitstream_io.specs.Refusal.{MayRefuseWrite}
use Rattle.bitstream_io.specs.Carries.{WriterState}
use Rattle.bitstream_io.specs.Writer.{writer_state}
use Rattle.bitstream_io.proofs.ReadsLemmas.{first_name}
use Rattle.bitfields_core.specs.Fault.{fault as fault_of}
use Rattle.bitfields_core.specs.Packing.{PackedBytes}
use Rattle.bitfields_core.proofs.PackingLemmas.{PackedBytes-from, filled, PackingRefused-from}
use Rattle.bitfields_core.proofs.UnpackedBytes.{MayRefuse-map}
use Rattle.bitfields_core.proofs.packing.pack_values.Goals as goal

pub returns-in-Ok : goal.returns-in-Ok
returns-in-Ok g c =
    let w = c.pack_to.new.writer in
    let fresh = c.new-writer.ensures in
    let added = c.in-Ok.ensures.adds (ap (λ (s : WriterState). s.failed) fresh) refl in
    let place = first_name {m = w.port.stream.at.ghost_name} {n = c.new.result.at.ghost_name} (added.references
    ∙ ap (λ (s : WriterState). s.port.references) fresh) in
    let bytes = PackedBytes-from g.E.Endianness.order c.args.layout.now c.args.values.now _ _ _
    (writer_state (lent_output g.W.Target.stream) w) w.few fresh added.grown in
    let names = c.new.ensures.name in
    rw (← c.new.ensures.value)
    (subst (λ l. PackedBytes g.E.Endianness.order c.args.layout.now c.args.values.now
    (g.W.Target.stream.contents c.new.result.at.now) (g.W.Target.stream.contents l)) (search rules) bytes)

pub returns-in-Err : goal.returns-in-Err
returns-in-Err g c =
    let o = g.E.Endianness.order in
    let target = g.W.Target.stream in
    let w = c.pack_to.new.writer in
    let fresh = c.new-writer.ensures in
    let fault = c.in-Err.ensures.adds (ap (λ (s : WriterState). s.failed) fresh) refl in
    let none = ap (λ (s : WriterState). 8 * s.port.sent + s.queued) fresh in
    let place = first_name {m = w.port.stream.at.ghost_name} {n = c.new.result.at.ghost_name} (fault.references
    ∙ ap (λ (s : WriterState). s.port.references) fresh) in
    let tied = c.output-1.given.1 (sym c.new.ensures.name ∙ sym place) in
    let seen = MayRefuse-map (λ l. l.at.now) (λ l. l.at.ghost_name) target.contents target.references target.refuses in
    let refused = PackingRefused-from _ (MayRefuseWrite target) c.args.layout.now
    c.args.values.now _ _ _ c.in-Err.error _ seen none (filled o _ _ _ fresh) fault (c.new-in-Err.ensures
    ∙ ap (fault_of 0) c.write_reason.ensures) in
    rw (tied, ← c.new.ensures.value) refused
