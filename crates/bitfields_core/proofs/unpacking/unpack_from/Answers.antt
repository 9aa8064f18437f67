use Rattle.std.proofs.Common.{rules, ◌≡◌, ◌++◌, ◌<◌, length, string_bytes, arith}
use Rattle.bitfields_core.specs.Value.{value_list, printed_lines}
use Rattle.bitfields_core.proofs.UnpackingLemmas.{Unpacking-start, Unpacking-buffer_refused, Unpacking-more, Unpacking-err, Unpacking-end, Unpacking-line_refused}
use Rattle.bitfields_core.proofs.unpacking.unpack_from.Goals as goal

pub loop-index-init : goal.loop-index-init
loop-index-init g c = Unpacking-start g.R.BitRead.source c.args.fields.now _ _ (search rules)

pub loop-index-preserved : goal.loop-index-preserved
loop-index-preserved g c =
    let i = c.loop-index.index in
    let h : i < length c.args.fields.now = omega arith in
    let printed : string_bytes c.print_field.new.lines ≡ string_bytes c.loop-index.lines
    ++ printed_lines (value_list c.in-Ok-unpack_field.value) = search rules in
    Unpacking-more g.R.BitRead.source c.args.fields.now i _ _ _ _ _ _ _ h c.loop-index.invariant
    c.in-Ok-unpack_field.ensures printed

pub returns-in_default : goal.returns-in_default
returns-in_default g c =
    let i = c.loop-index.index in
    let h : i < length c.args.fields.now = omega arith in
    Unpacking-buffer_refused g.R.BitRead.source c.args.fields.now i _ _ _ _ _ h c.loop-index.invariant
    (c.room_for.ensures.asks (search rules)) c.new.ensures

pub returns-then-is_err : goal.returns-then-is_err
returns-then-is_err g c =
    let i = c.loop-index.index in
    let h : i < length c.args.fields.now = omega arith in
    Unpacking-line_refused g.R.BitRead.source c.args.fields.now i _ _ _ _ _ c.in-Ok-unpack_field.value _ h
    c.loop-index.invariant
    c.in-Ok-unpack_field.ensures (c.print_field.ensures.some (search rules)) c.new-then-is_err.ensures

pub returns-in-Err : goal.returns-in-Err
returns-in-Err g c =
    let i = c.loop-index.index in
    let h : i < length c.args.fields.now = omega arith in
    Unpacking-err g.R.BitRead.source c.args.fields.now i _ _ _ _ _ c.in-Err.reason _ h c.loop-index.invariant
    c.in-Err.ensures c.new-in-Err.ensures

pub returns : goal.returns
returns g c = Unpacking-end g.R.BitRead.source c.args.fields.now c.loop-index.index _ _ _ (omega arith)
    c.loop-index.invariant
