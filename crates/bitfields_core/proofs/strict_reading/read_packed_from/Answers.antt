use Rattle.std.proofs.Common.{rules, ◌≡◌, ◌++◌, ◌<◌, length, arith}
use Rattle.bitfields_core.specs.Repacking.{exact_read, with_alignment}
use Rattle.bitfields_core.specs.Value.{value_list}
use Rattle.bitfields_core.proofs.RepackingLemmas.{field_at, packed_end, packed_end_err, stopped_at}
use Rattle.bitfields_core.proofs.UnpackingLemmas.{Remaining-buffer_refused, Remaining-err, Remaining-line_refused, Remaining-more}
use Rattle.bitfields_core.proofs.strict_reading.read_packed_from.Goals as goal

pub loop-index-preserved : goal.loop-index-preserved
loop-index-preserved g c =
    let i = c.loop-index.index in
    let fields = c.args.fields.now in
    let h : i < length fields = omega arith in
    let v = c.in-Ok-read_exact_field.value in
    let pushed : c.push_value.new.values.items ≡ c.loop-index.values.items ++ value_list v = search rules in
    rw pushed (Remaining-more exact_read g.R.BitRead.source (with_alignment fields) i _ _ _ (field_at fields i _ h)
    c.loop-index.invariant c.in-Ok-read_exact_field.ensures)

pub returns-in_default : goal.returns-in_default
returns-in_default g c =
    let i = c.loop-index.index in
    let fields = c.args.fields.now in
    let h : i < length fields = omega arith in
    stopped_at g.R.BitRead.source fields h c.new.ensures
    (Remaining-buffer_refused exact_read g.R.BitRead.source (with_alignment fields) i _ _ _ (field_at fields i _ h)
    c.loop-index.invariant (c.room_for.ensures.asks (search rules)) c.new.ensures)

pub returns-then-is_err : goal.returns-then-is_err
returns-then-is_err g c =
    let i = c.loop-index.index in
    let fields = c.args.fields.now in
    let h : i < length fields = omega arith in
    stopped_at g.R.BitRead.source fields h c.new-then-is_err.ensures
    (Remaining-line_refused exact_read g.R.BitRead.source (with_alignment fields) i _ _ _ (field_at fields i _ h)
    c.loop-index.invariant c.in-Ok-read_exact_field.ensures (c.push_value.ensures.some (search rules))
    c.new-then-is_err.ensures)

pub returns-in-Err : goal.returns-in-Err
returns-in-Err g c =
    let i = c.loop-index.index in
    let fields = c.args.fields.now in
    let h : i < length fields = omega arith in
    stopped_at g.R.BitRead.source fields h c.new-in-Err.ensures
    (Remaining-err exact_read g.R.BitRead.source (with_alignment fields) i _ _ _ (field_at fields i _ h)
    c.loop-index.invariant c.in-Err.ensures c.new-in-Err.ensures)

pub returns-in-Ok-read_alignment : goal.returns-in-Ok-read_alignment
returns-in-Ok-read_alignment g c =
    let at : c.loop-index.index ≡ length c.args.fields.now = omega arith in
    packed_end g.R.BitRead.source c.args.fields.now at _ c.loop-index.values.items c.loop-index.invariant
    (rw c.in-Ok-read_alignment.ensures.none at c.in-Ok-read_alignment.ensures.reads)

pub returns-in-Err-read_alignment : goal.returns-in-Err-read_alignment
returns-in-Err-read_alignment g c =
    let at : c.loop-index.index ≡ length c.args.fields.now = omega arith in
    packed_end_err g.R.BitRead.source c.args.fields.now at _ c.loop-index.values.items c.loop-index.invariant
    c.in-Err-read_alignment.ensures.reads c.new-in-Err-read_alignment.ensures
