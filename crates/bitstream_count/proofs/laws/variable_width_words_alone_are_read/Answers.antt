use Rattle.std.proofs.Common.{arith}
use Rattle.bitstream_count.proofs.VbrLemmas.{read_vbr_only}
use Rattle.bitstream_count.proofs.laws.variable_width_words_alone_are_read.Goals as goal

pub returns : goal.returns
returns c strict o field width limit bits n v wide e =
    read_vbr_only o field (omega arith) strict width limit bits n v wide e
