use Rattle.std.proofs.Common.{arith}
use Rattle.bitstream_count.proofs.VbrLemmas.{read_vbr-IsAccepted}
use Rattle.bitstream_count.proofs.laws.variable_width_words_read_back.Goals as goal

pub returns : goal.returns
returns c strict o field width limit w v rest wide a =
    read_vbr-IsAccepted o field (omega arith) strict width limit w v rest wide a
