use Rattle.bitstream_io.proofs.OwnSteps.{few_own_reads}
use Rattle.bitstream_callers.proofs.reading.ReadingFromBitStreamWith.from_reader.Goals as goal

pub returns-in_err-read_bit : goal.returns-in_err-read_bit
returns-in_err-read_bit g c = search few_own_reads depth 12

pub returns-in_err-read_var : goal.returns-in_err-read_var
returns-in_err-read_var g c = search few_own_reads depth 12

pub returns-in_ok-read_var : goal.returns-in_ok-read_var
returns-in_ok-read_var g c = search few_own_reads depth 12

pub returns-else-branch : goal.returns-else-branch
returns-else-branch g c = search few_own_reads depth 12
