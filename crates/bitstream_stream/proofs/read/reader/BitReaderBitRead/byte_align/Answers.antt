use Rattle.bitstream_stream.proofs.Reading.WaysLemmas.{aligned_reads}
use Rattle.bitstream_stream.proofs.read.reader.BitReaderBitRead.byte_align.Goals as goal

pub returns-clause-reads : goal.returns-clause-reads
returns-clause-reads g c =
    rw c.drop_queue.ensures
    (aligned_reads g.R.Source.stream g.E.Endianness.order
    c.args.self.now)
