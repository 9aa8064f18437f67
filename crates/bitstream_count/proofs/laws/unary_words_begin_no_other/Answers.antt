use Rattle.bitstream_count.proofs.UnaryLemmas.{unary_apart}
use Rattle.bitstream_count.proofs.laws.unary_words_begin_no_other.Goals as goal

pub returns : goal.returns
returns c = unary_apart
