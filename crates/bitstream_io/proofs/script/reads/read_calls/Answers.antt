use Rattle.std.proofs.Common.{◌≡◌, ◌<◌, ℕ, ◌+◌, List, [], ◌∷◌, ◌++◌, length, take, get_or, set, Option, Some, Result, refl, sym, ap, ◌∙◌, subst, arith}
use Rattle.std.proofs.lemmas.List.{take_more, take_more_set}
use Rattle.std.proofs.Math.Seq.{take-length}
use Rattle.bitstream_count.specs.declared.error.Error.{Error}
use Rattle.bitstream_io.specs.ReadScript.{ReadsEach}
use Rattle.bitstream_io.specs.declared.script.answers.Answer.{Answer}
use Rattle.bitstream_io.specs.declared.script.read_call.ReadCall.{ReadCall}
use Rattle.bitstream_io.specs.declared.script.read_call.ReadCall.TheVariants.{Bit}
use Rattle.bitstream_io.proofs.ReadBackLemmas.{reads_back}
use Rattle.bitstream_io.proofs.ReadScriptLemmas.{each_none, each_more, run_of}
use Rattle.bitstream_io.proofs.script.reads.read_calls.Goals as goal

pub loop-i-init : goal.loop-i-init
loop-i-init g c = each_none g.R.BitRead.source _

pub loop-i-preserved : goal.loop-i-preserved
loop-i-preserved g c =
    let K = g.R.BitRead.source in
    let calls = c.args.calls.now in
    let answers = c.loop-i.answers in
    let i = c.loop-i.i in
    let call = get_or calls i Bit in
    let old = c.args.reader.now in
    let new = c.make.new.reader in
    let calls-are : take (i + 1) calls ≡ take i calls ++ call ∷ [] =
    take_more calls i Bit c.loop-i-test.true in
    let fits : i < length answers = omega arith in
    subst (λ (l : List ReadCall). ReadsEach K l old (take (i + 1) (set answers i (Some c.make.result))) new)
    (sym calls-are)
    (subst (λ (l : List (Option (Result Answer Error))). ReadsEach K (take i calls ++ call ∷ []) old l new)
    (sym (take_more_set answers i (Some c.make.result) fits))
    (each_more K (take i calls) (take i answers) old c.loop-i.reader call c.make.result (Some c.make.result) new
    c.loop-i.invariant refl c.make.ensures.reads))

pub returns-clause-each : goal.returns-clause-each
returns-clause-each g c =
    let K = g.R.BitRead.source in
    let calls = c.args.calls.now in
    let answers = c.loop-i.answers in
    let every : c.loop-i.i ≡ length calls = omega arith in
    let same : c.loop-i.i ≡ length answers = omega arith in
    subst (λ (l : List ReadCall). ReadsEach K l c.args.reader.now answers c.loop-i.reader)
    (ap (λ (n : ℕ). take n calls) every ∙ take-length calls)
    (subst (λ (l : List (Option (Result Answer Error))). ReadsEach K (take c.loop-i.i calls) c.args.reader.now l
    c.loop-i.reader) (ap (λ (n : ℕ). take n answers) same ∙ take-length answers) c.loop-i.invariant)

pub returns-clause-run : goal.returns-clause-run
returns-clause-run g c bytes known = run_of g.R.BitRead.source c.args.calls.now _ _ _ (returns-clause-each g c) bytes
    known

pub returns-clause-back : goal.returns-clause-back
returns-clause-back g c written len typed stands same =
    reads_back g.R.BitRead.source written len c.args.calls.now _ _ _ typed stands same (returns-clause-run g c)
