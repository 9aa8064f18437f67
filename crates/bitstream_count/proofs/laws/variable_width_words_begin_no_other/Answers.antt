use Rattle.std.proofs.Common.{false}
use Rattle.bitstream_count.proofs.VbrLemmas.{groups_apart}
use Rattle.bitstream_count.proofs.laws.variable_width_words_begin_no_other.Goals as goal

pub returns : goal.returns
returns c o field u v x y a b some p q e = groups_apart o field some false false p.0 q.0 u v a b x y p.1 q.1 e
