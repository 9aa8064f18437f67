use Rattle.bitstream_sink.proofs.RecorderLemmas.{recorded_grow, recorded_count}
use Rattle.bitstream_sink.proofs.recorder.laws.recordings_grow.Goals as goal

pub returns : goal.returns
returns g c = record {
  grow = λ old new x p. recorded_grow g.E.Endianness.order old new x p;
  count =
      λ recorder. recorded_count g.E.Endianness.order recorder;
}
