use Rattle.std.proofs.Common.{Ok, Err, refl, ap, ◌∙◌}
use Rattle.std.specs.Fn.{FnOnceReturnsAtMut}
use Rattle.std.proofs.lemmas.Result.{err_from_is_err_and}
use Rattle.bitstream_sink.specs.Best.{gave_candidate, function_failed}
use Rattle.bitstream_sink.proofs.BestLemmas.{kept}
use Rattle.bitstream_sink.proofs.recorder.best.Recorder.best.Goals as goal

pub returns-in_err-f : goal.returns-in_err-f
returns-in_err-f g c =
    let p = err_from_is_err_and c.from_residual.result c.from_residual.ensures.1 in
    let ran : FnOnceReturnsAtMut g.X.FnOnce c.args.f c.begin_anew.new.self (Err c.in_err-f.field-0.0) c.f.new.arg2 =
    record { shown = _; shows = refl; left = _; met = c.in_err-f.ensures; leaves = refl } in
    function_failed c.begin_anew.new.self c.f.new.arg2 c.in_err-f.field-0.0 c.begin_anew.ensures ran (p.1
    ∙ ap Err p.2) refl

pub returns-then-is_better_than : goal.returns-then-is_better_than
returns-then-is_better_than g c =
    let ran : FnOnceReturnsAtMut g.X.FnOnce c.args.f c.begin_anew.new.self (Ok tt) c.f.new.arg2 =
    record { shown = _; shows = refl; left = _; met = c.in_ok-f.ensures; leaves = refl } in
    let better = c.is_better_than.ensures.0 c.if-is_better_than.true in
    gave_candidate c.begin_anew.new.self c.f.new.arg2 c.begin_anew.ensures ran better.0 better.1
    (ap Ok c.replace.ensures.value) c.replace.ensures.after

pub returns-else-is_better_than : goal.returns-else-is_better_than
returns-else-is_better_than g c =
    let ran : FnOnceReturnsAtMut g.X.FnOnce c.args.f c.begin_anew.new.self (Ok tt) c.f.new.arg2 =
    record { shown = _; shows = refl; left = _; met = c.in_ok-f.ensures; leaves = refl } in
    kept g.Self.BitWrite.sink g.Self.Recorder.is_empty (FnOnceReturnsAtMut g.X.FnOnce c.args.f) c.args.self
    c.begin_anew.new.self c.f.new.arg2 c.begin_anew.ensures ran c.is_better_than.result c.is_better_than.ensures
    c.if-is_better_than.false
