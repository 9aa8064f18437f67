use Rattle.std.proofs.Common.{arith}
use Rattle.bitstream_number.specs.Word.{High, Low}
use Rattle.bitstream_number.proofs.WordLemmas.{number-joined}
use Rattle.bitstream_number.proofs.laws.words_split.Goals as goal

pub returns-clause-high : goal.returns-clause-high
returns-clause-high c = number-joined High

pub returns-clause-low : goal.returns-clause-low
returns-clause-low c first second = omega (arith, number-joined Low second first)
