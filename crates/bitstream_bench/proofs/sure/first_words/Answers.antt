use Rattle.std.proofs.Common.{arith}
use Rattle.bitstream_io.specs.Word.{High}
use Rattle.bitstream_io.proofs.SliceEnds.{slice_ends}
use Rattle.bitstream_io.proofs.SureLemmas.{unsigned-word, items-word, items_there, word_short}
use Rattle.bitstream_bench.proofs.sure.first_words.Goals as goal

pub returns-clause-there : goal.returns-clause-there
returns-clause-there c =
    let word = unsigned-word High 16 9 (omega arith) in
    rw (← c.new.ensures.bytes) (λ enough. items_there word 3 slice_ends c.new-reader.ensures.state c.read.ensures.reads
    enough)

pub returns-clause-short : goal.returns-clause-short
returns-clause-short c =
    let word = items-word (unsigned-word High 16 9 (omega arith)) 3 in
    rw (← c.new.ensures.bytes) (λ few. word_short word slice_ends c.new-reader.ensures.state c.read.ensures.reads few)
