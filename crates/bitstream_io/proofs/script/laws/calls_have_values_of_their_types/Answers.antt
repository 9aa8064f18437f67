use Rattle.std.proofs.Common.{◌≡◌, length, take, ap, subst, ◌∙◌, arith}
use Rattle.std.specs.List.{All}
use Rattle.std.proofs.Math.Seq.{take-length}
use Rattle.std.proofs.lemmas.List.Elements.{All-more}
use Rattle.bitstream_io.specs.ReadBack.{IsCall}
use Rattle.bitstream_io.proofs.script.laws.calls_have_values_of_their_types.Goals as goal

pub loop-call-preserved : goal.loop-call-preserved
loop-call-preserved c =
    let calls = c.args.calls.now in
    let i = c.loop-call.call-index in
    let call = c.call-item.result in
    let holds = subst IsCall c.call-item.is c.has_values_of_its_types.ensures in
    All-more IsCall calls i call c.loop-call-test.true c.loop-call.invariant holds

pub returns : goal.returns
returns c =
    let calls = c.args.calls.now in
    let every : c.loop-call.call-index ≡ length calls = omega arith in
    subst (All IsCall) (ap (λ n. take n calls) every ∙ take-length calls) c.loop-call.invariant
