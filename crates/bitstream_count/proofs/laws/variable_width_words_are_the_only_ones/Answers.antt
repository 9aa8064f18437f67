use Rattle.std.proofs.Common.{arith, ◌^◌, true}
use Rattle.bitstream_number.specs.Word.{zig}
use Rattle.bitstream_count.proofs.VbrLemmas.{vbr_word_accepted, vbr_word_only, signed_word_only, zig-lt}
use Rattle.bitstream_count.proofs.laws.variable_width_words_are_the_only_ones.Goals as goal

pub returns-clause-accepted : goal.returns-clause-accepted
returns-clause-accepted c o field width limit v wide bits most small =
    vbr_word_accepted o field (omega arith) true width limit v wide bits most small

pub returns-clause-only : goal.returns-clause-only
returns-clause-only c o field width limit v w wide a = vbr_word_only o field (omega arith) a.0 w v wide a.1

pub returns-clause-signed_accepted : goal.returns-clause-signed_accepted
returns-clause-signed_accepted c o field width x wide bits fits =
    vbr_word_accepted o field (omega arith) true width (2 ^ width) (zig x) wide bits (omega arith)
    (zig-lt width x bits fits)

pub returns-clause-signed_only : goal.returns-clause-signed_only
returns-clause-signed_only c o field width v x w wide a is =
    signed_word_only o field (omega arith) width (2 ^ width) x w v wide a is
