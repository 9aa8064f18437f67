use Rattle.std.proofs.Common.{true, false}
use Rattle.bitstream_io.proofs.CallsBack.{bit-read, unsigned-read, signed-read, const-read, unary-read, count-read, bytes-read, skip-read, groups-read, signed_groups-read}
use Rattle.bitstream_io.proofs.script.laws.written_words_are_read.Goals as goal

pub returns-clause-bit : goal.returns-clause-bit
returns-clause-bit c = bit-read

pub returns-clause-unsigned : goal.returns-clause-unsigned
returns-clause-unsigned c = unsigned-read

pub returns-clause-signed : goal.returns-clause-signed
returns-clause-signed c = signed-read

pub returns-clause-constant : goal.returns-clause-constant
returns-clause-constant c = const-read

pub returns-clause-unary : goal.returns-clause-unary
returns-clause-unary c = unary-read

pub returns-clause-count : goal.returns-clause-count
returns-clause-count c = count-read

pub returns-clause-bytes : goal.returns-clause-bytes
returns-clause-bytes c = bytes-read

pub returns-clause-skip : goal.returns-clause-skip
returns-clause-skip c = skip-read

pub returns-clause-vbr : goal.returns-clause-vbr
returns-clause-vbr c = groups-read true

pub returns-clause-any_vbr : goal.returns-clause-any_vbr
returns-clause-any_vbr c = groups-read false

pub returns-clause-signed_vbr : goal.returns-clause-signed_vbr
returns-clause-signed_vbr c = signed_groups-read true

pub returns-clause-any_signed_vbr : goal.returns-clause-any_signed_vbr
returns-clause-any_signed_vbr c = signed_groups-read false
