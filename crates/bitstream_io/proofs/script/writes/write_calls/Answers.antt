use Rattle.std.proofs.Common.{◌≡◌, ◌<◌, ℕ, ◌+◌, List, [], ◌∷◌, ◌++◌, length, take, set, Option, sym, ap, ◌∙◌, subst, arith}
use Rattle.std.proofs.lemmas.List.{take_more, take_more_set}
use Rattle.std.proofs.Math.Seq.{take-length}
use Rattle.bitstream_count.specs.Codec.{Encoder}
use Rattle.bitstream_count.specs.declared.error.Error.{Error}
use Rattle.bitstream_io.specs.Script.{write_encoder, limit_encoder, write_encoders, WritesSequence}
use Rattle.bitstream_io.specs.declared.script.write_call.WriteCall.{WriteCall}
use Rattle.bitstream_io.proofs.SequenceLemmas.{run_none, run_more}
use Rattle.bitstream_io.proofs.ScriptLemmas.{counts, encoders-append}
use Rattle.bitstream_io.proofs.script.writes.write_calls.Goals as goal

pub loop-i-init : goal.loop-i-init
loop-i-init g c = run_none g.W.BitWrite.sink _

pub loop-i-preserved : goal.loop-i-preserved
loop-i-preserved g c =
    let K = g.W.BitWrite.sink in
    let calls = c.args.calls.now in
    let answers = c.loop-i.answers in
    let i = c.loop-i.i in
    let call = c.index-calls-i.result in
    let answer = c.err.result in
    let old = c.args.writer.now in
    let new = c.make.new.writer in
    let encoders-are : write_encoders K.limit K.order (take (i + 1) calls) ≡ write_encoders K.limit K.order (take i calls)
    ++ limit_encoder K.limit (write_encoder K.order call) ∷ [] =
    ap (write_encoders K.limit K.order) (take_more calls i call c.loop-i-test.true
    ∙ ap (λ (x : WriteCall). take i calls ++ x ∷ []) (sym c.index-calls-i.is))
    ∙ encoders-append K.limit K.order (take i calls) (call ∷ []) in
    let fits : i < length answers = omega arith in
    subst (λ (es : List Encoder). WritesSequence K es old (take (i + 1) (set answers i answer)) new) (sym encoders-are)
    (subst (λ (l : List (Option Error)). WritesSequence K (write_encoders K.limit K.order (take i calls)
    ++ limit_encoder K.limit (write_encoder K.order call) ∷ []) old l new) (sym (take_more_set answers i answer fits))
    (run_more K (write_encoders K.limit K.order (take i calls)) (write_encoder K.order call) old c.loop-i.writer new
    (take i answers) answer c.make.result c.loop-i.invariant c.make.ensures.writes c.err.ensures.value))

pub returns-clause-appends : goal.returns-clause-appends
returns-clause-appends g c =
    let K = g.W.BitWrite.sink in
    let calls = c.args.calls.now in
    let answers = c.loop-i.answers in
    let every : c.loop-i.i ≡ length calls = omega arith in
    let same : c.loop-i.i ≡ length answers = omega arith in
    subst (λ (l : List WriteCall). WritesSequence K (write_encoders K.limit K.order l) c.args.writer.now answers
    c.loop-i.writer) (ap (λ (n : ℕ). take n calls) every ∙ take-length calls)
    (subst (λ (l : List (Option Error)). WritesSequence K (write_encoders K.limit K.order (take c.loop-i.i calls))
    c.args.writer.now l c.loop-i.writer) (ap (λ (n : ℕ). take n answers) same
    ∙ take-length answers) c.loop-i.invariant)

pub returns-clause-counts : goal.returns-clause-counts
returns-clause-counts g c o = counts g.W.BitWrite.sink o c.args.calls.now _ _ _ (returns-clause-appends g c)
