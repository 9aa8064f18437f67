use Rattle.bitstream_number.proofs.WordLemmas.{bits-bytes}
use Rattle.bitstream_number.proofs.laws.bytes_are_words.Goals as goal

pub returns : goal.returns
returns c = bits-bytes
