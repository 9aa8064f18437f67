use Rattle.std.proofs.Common.{subst, ℕ, ◌∙◌}
use Rattle.bitstream_sink.specs.Counter.{Counts}
use Rattle.bitstream_sink.proofs.RecorderLemmas.{recorded_count}
use Rattle.bitstream_sink.proofs.recorder.BitRecorder.written_checked.Goals as goal

pub returns-clause-bits : goal.returns-clause-bits
returns-clause-bits g c =
    subst (λ (n : ℕ). Counts g.N.Counter.value g.N.Counter.greatest n c.value_of.result) (c.bits.ensures
    ∙ recorded_count g.E.Endianness.order c.args.self.now) c.value_of.ensures
