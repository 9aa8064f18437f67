use Rattle.bitstream_count.proofs.UnaryLemmas.{read_unary-unary}
use Rattle.bitstream_count.proofs.laws.unary_words_read_back.Goals as goal

pub returns : goal.returns
returns c = read_unary-unary
