use Rattle.std.proofs.Common.{rules, ◌≡◌, ◌++◌, ◌<◌, length, arith, sym, ◌∙◌}
use Rattle.bitfields_core.specs.Value.{value_list}
use Rattle.bitfields_core.proofs.ValueLemmas.{one_value}
use Rattle.bitfields_core.proofs.values.read_values.Goals as goal

pub loop-index-preserved : goal.loop-index-preserved
loop-index-preserved c =
    let i = c.loop-index.index in
    let h : i < length c.args.fields.now = omega arith in
    let pushed : c.push_value.new.values.items ≡ c.loop-index.values.items ++ value_list c.in-Ok.value = search rules in
    let more = one_value c.args.fields.now i _ c.loop-index.values.items _ c.in-Ok.value h c.loop-index.invariant
    (sym c.in_ok-value.ensures.value ∙ c.in-Ok.is) in
    rw pushed (search (rules, more))
