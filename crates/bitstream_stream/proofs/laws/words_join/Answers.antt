use Rattle.bitstream_stream.proofs.Reading.LawLemmas.{words_join-high, words_join-low}
use Rattle.bitstream_stream.proofs.laws.words_join.Goals as goal

pub returns-clause-high : goal.returns-clause-high
returns-clause-high c size a b p bits within = (words_join-high size a b within).reads p bits

pub returns-clause-low : goal.returns-clause-low
returns-clause-low c size a b p bits within = (words_join-low size a b within).reads p bits
