use Rattle.bitstream_io.proofs.SinkLemmas.{inner}
use Rattle.bitstream_bench.proofs.inherited.OwnWriterBitWrite.write_as_from.Goals as goal

pub returns : goal.returns
returns g c = record {
  writes = inner (λ writer. writer.inner) g.W.BitWrite.sink _ _ _ _ c.write_as_from.ensures.writes;
}
