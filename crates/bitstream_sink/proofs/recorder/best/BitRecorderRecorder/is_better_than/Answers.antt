use Rattle.std.proofs.Common.{arith, sym, ◌∙◌}
use Rattle.std.proofs.lemmas.Bool.{ltb-true, lt-ltb}
use Rattle.bitstream_sink.proofs.recorder.best.BitRecorderRecorder.is_better_than.Goals as goal

pub returns-then-not-failed : goal.returns-then-not-failed
returns-then-not-failed g c =
    let mine = c.bits.result in
    let others = c.bits-then-not-failed.result in
    let sound = sym c.failed.ensures ∙ c.if-not-failed.true in
    (λ less. (sound, omega (arith, ltb-true mine others less)), λ better. lt-ltb mine others (omega (arith, better.1)))
