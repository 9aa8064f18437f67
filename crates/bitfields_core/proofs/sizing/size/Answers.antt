use Rattle.std.proofs.Common.{arith, refl, ◌∙◌}
use Rattle.bitfields_core.proofs.MemoryLemmas.{value_expected, fault_expected}
use Rattle.bitfields_core.proofs.PackingLemmas.{result_err}
use Rattle.bitfields_core.proofs.SizeLemmas.{counts-size, size-done, size-fault}
use Rattle.bitfields_core.proofs.sizing.size.Goals as goal

pub returns-in_err-values : goal.returns-in_err-values
returns-in_err-values c =
    size-fault c.args.layout.now _ c.from_residual.result _
    (result_err c.from_residual.result c.from_residual.ensures.1) (fault_expected c.in_err-values.ensures.values)

pub unreachable-requires : goal.unreachable-requires
unreachable-requires c =
    let all = rw (c.fields.ensures.fields, c.deref.ensures.value) at c.append_fields.ensures in
    let counted = counts-size _ c.args.layout.now c.in_ok-values.values.items _ _ _ all c.fields.ensures.is_layout
    c.in_ok-values.ensures.fit refl c.new-counter.ensures (λ y h. h) (λ n le. omega arith) in
    let refused = c.in-Err.is in
    cc counted.0

pub returns : goal.returns
returns c =
    let all = rw (c.fields.ensures.fields, c.deref.ensures.value) at c.append_fields.ensures in
    let counted = counts-size _ c.args.layout.now c.in_ok-values.values.items _ _ _ all c.fields.ensures.is_layout
    c.in_ok-values.ensures.fit refl c.new-counter.ensures (λ y h. h) (λ n le. omega arith) in
    size-done c.args.layout.now _ c.in_ok-values.values.items c.into_written.result c.fields.ensures.is_layout
    c.in_ok-values.ensures.fit (value_expected c.in_ok-values.ensures.values) (c.into_written.ensures ∙ counted.1)
