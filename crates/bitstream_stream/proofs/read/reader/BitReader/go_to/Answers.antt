use Rattle.bitstream_stream.proofs.Reading.SeekLemmas.{goes, goes_too_far}
use Rattle.bitstream_stream.proofs.read.reader.BitReader.go_to.Goals as goal

pub returns-in_err-_skipped : goal.returns-in_err-_skipped
returns-in_err-_skipped g c = goes_too_far c.from_residual-in_err-_skipped.result
    c.from_residual-in_err-_skipped.ensures.1 c.in_ok-_at.ensures c.in_err-_skipped.ensures.reads

pub returns : goal.returns
returns g c = goes c.in_ok-_at.ensures c.in_ok-_skipped.ensures.reads
