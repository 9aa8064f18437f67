use Rattle.bitstream_stream.proofs.Reading.WaysLemmas.{aligned_reads}
use Rattle.bitstream_stream.proofs.laws.dropped_queues_are_alignments.Goals as goal

pub returns : goal.returns
returns g c = λ r. aligned_reads g.R.Source.stream g.E.Endianness.order
    r
