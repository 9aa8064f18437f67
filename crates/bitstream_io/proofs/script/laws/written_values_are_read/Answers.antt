use Rattle.bitstream_io.proofs.CallsBack.{truth-read, non_zero-read, option-read, non_zero_vbr-read, option_vbr-read, checked-read, signed_checked-read, items-read, symbol-read, limited-read}
use Rattle.bitstream_io.proofs.script.laws.written_values_are_read.Goals as goal

pub returns-clause-bool : goal.returns-clause-bool
returns-clause-bool g c = truth-read

pub returns-clause-non_zero : goal.returns-clause-non_zero
returns-clause-non_zero g c = non_zero-read

pub returns-clause-option : goal.returns-clause-option
returns-clause-option g c = option-read

pub returns-clause-non_zero_vbr : goal.returns-clause-non_zero_vbr
returns-clause-non_zero_vbr g c = non_zero_vbr-read

pub returns-clause-option_vbr : goal.returns-clause-option_vbr
returns-clause-option_vbr g c = option_vbr-read

pub returns-clause-checked : goal.returns-clause-checked
returns-clause-checked g c = checked-read

pub returns-clause-signed_checked : goal.returns-clause-signed_checked
returns-clause-signed_checked g c = signed_checked-read

pub returns-clause-array : goal.returns-clause-array
returns-clause-array g c = items-read

pub returns-clause-symbol : goal.returns-clause-symbol
returns-clause-symbol g c = symbol-read

pub returns-clause-limited_unary : goal.returns-clause-limited_unary
returns-clause-limited_unary g c = limited-read
