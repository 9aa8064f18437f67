use Rattle.bitstream_stream.proofs.Reading.EnoughLemmas.{bit-enough, unsigned-enough, signed-enough, const-enough, count-enough, bytes-enough, skip-enough, pure-enough, and_then-enough}
use Rattle.bitstream_stream.proofs.laws.known_lengths_are_enough.Goals as goal

pub returns-clause-bit : goal.returns-clause-bit
returns-clause-bit g c = bit-enough

pub returns-clause-unsigned : goal.returns-clause-unsigned
returns-clause-unsigned g c = unsigned-enough

pub returns-clause-signed : goal.returns-clause-signed
returns-clause-signed g c = signed-enough

pub returns-clause-constant : goal.returns-clause-constant
returns-clause-constant g c = const-enough

pub returns-clause-count : goal.returns-clause-count
returns-clause-count g c = count-enough

pub returns-clause-bytes : goal.returns-clause-bytes
returns-clause-bytes g c = bytes-enough

pub returns-clause-skip : goal.returns-clause-skip
returns-clause-skip g c = skip-enough

pub returns-clause-none : goal.returns-clause-none
returns-clause-none g c = pure-enough

pub returns-clause-both : goal.returns-clause-both
returns-clause-both g c = and_then-enough
