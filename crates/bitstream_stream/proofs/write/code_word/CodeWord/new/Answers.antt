use Rattle.std.proofs.Common.{arith, refl}
use Rattle.bitstream_number.specs.Word.{digits}
use Rattle.bitstream_stream.proofs.write.code_word.CodeWord.new.Goals as goal

pub invariant_of-result : goal.invariant_of-result
unfolding digits
invariant_of-result c = record { few = omega arith; small_high = omega arith; small_low = omega arith; same = refl }

pub returns : goal.returns
unfolding digits
returns c = refl
