use Rattle.bitstream_number.proofs.WordLemmas.{length-word, number-word, word-number, same_from_word}
use Rattle.bitstream_number.proofs.SignedLemmas.{signed_number-signed_word}
use Rattle.bitstream_number.proofs.laws.words_hold_numbers.Goals as goal

pub returns-clause-length : goal.returns-clause-length
returns-clause-length c = length-word

pub returns-clause-number : goal.returns-clause-number
returns-clause-number c = number-word

pub returns-clause-word : goal.returns-clause-word
returns-clause-word c = word-number

pub returns-clause-same : goal.returns-clause-same
returns-clause-same c = same_from_word

pub returns-clause-signed : goal.returns-clause-signed
returns-clause-signed c = signed_number-signed_word
