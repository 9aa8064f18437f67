use Rattle.std.proofs.Common.{◌<◌, length, arith}
use Rattle.bitfields_core.proofs.PackingLemmas.{result_err, Packing-more, Packing-fault, Packing-end}
use Rattle.bitfields_core.proofs.packing.append_fields.Goals as goal

pub loop-field-preserved : goal.loop-field-preserved
loop-field-preserved g c =
    let i = c.loop-field.field-index in
    let h : i < length c.args.fields.now = omega arith in
    Packing-more g.W.BitWrite.sink c.args.fields.now c.args.values.now i _ _ _ _ _ _ h c.loop-field.invariant
    c.in_ok-append_field.ensures c.behind_value-rest.ensures

pub returns-in_err-append_field : goal.returns-in_err-append_field
returns-in_err-append_field g c =
    let i = c.loop-field.field-index in
    let h : i < length c.args.fields.now = omega arith in
    Packing-fault g.W.BitWrite.sink c.args.fields.now c.args.values.now i _ _ _ _ _ _ _ h c.loop-field.invariant
    (result_err c.from_residual.result c.from_residual.ensures.1) c.in_err-append_field.ensures

pub returns : goal.returns
returns g c = Packing-end g.W.BitWrite.sink c.args.fields.now c.args.values.now c.loop-field.field-index _ _ _
    (omega arith) c.loop-field.invariant
