use Rattle.bitstream_sink.proofs.RecorderLemmas.{refused_memory}
use Rattle.bitstream_sink.proofs.recorder.laws.recorders_lack_memory.Goals as goal

pub returns : goal.returns
returns g c = λ old new x error p. refused_memory g.E.Endianness.order old new x error p
