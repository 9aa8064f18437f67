use Rattle.bitstream_io.proofs.OwnLemmas.{plainly_written}
use Rattle.bitstream_io.proofs.WriteSteps.{few_writes}
use Rattle.bitstream_callers.proofs.reading.ReadingToBitStreamWith.to_writer.Goals as goal

pub returns-in_err-write_bit : goal.returns-in_err-write_bit
returns-in_err-write_bit g c = search (plainly_written, few_writes) depth 12

pub returns : goal.returns
returns g c = search (plainly_written, few_writes) depth 12
