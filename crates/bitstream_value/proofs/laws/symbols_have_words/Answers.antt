use Rattle.bitstream_value.proofs.TreeLemmas.{first_path_is_first, word_known, word-some, word_back}
use Rattle.bitstream_value.proofs.laws.symbols_have_words.Goals as goal

pub returns-clause-known : goal.returns-clause-known
returns-clause-known g c = λ same t s. word_known same s t

pub returns-clause-first : goal.returns-clause-first
returns-clause-first g c = λ same t s w e. (first_path_is_first same s t w e, word-some same s t w e)

pub returns-clause-back : goal.returns-clause-back
returns-clause-back g c = λ same t s w e. word_back same s t w e
