use Rattle.bitstream_count.proofs.UnaryLemmas.{unary_read, long_read}
use Rattle.bitstream_count.proofs.laws.unary_words_alone_are_read.Goals as goal

pub returns : goal.returns
returns c = record { number = unary_read; error = long_read }
