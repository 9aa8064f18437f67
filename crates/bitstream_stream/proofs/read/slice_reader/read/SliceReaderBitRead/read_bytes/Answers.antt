use Rattle.bitstream_stream.proofs.Reading.BytesLemmas.{bytes-failed}
use Rattle.bitstream_stream.proofs.read.slice_reader.read.SliceReaderBitRead.read_bytes.Goals as goal

pub returns-then-self-clause-reads : goal.returns-then-self-clause-reads
returns-then-self-clause-reads g c = bytes-failed _ _ _ c.if-self.true
