use Rattle.std.proofs.Common.{sym, ◌∙◌, arith}
use Rattle.bitstream_io.specs.Word.{High}
use Rattle.bitstream_io.proofs.SliceEnds.{slice_ends}
use Rattle.bitstream_io.proofs.SliceLemmas.{map_same}
use Rattle.bitstream_io.proofs.SureLemmas.{unsigned-word, word_there, word_short}
use Rattle.bitstream_bench.proofs.sure.first_word.Goals as goal

pub returns-clause-there : goal.returns-clause-there
returns-clause-there c =
    let word = unsigned-word High 16 12 (omega arith) in
    rw (← c.new.ensures.bytes) (λ enough. sym (map_same c.read_unsigned_var.result)
    ∙ word_there word slice_ends c.new-reader.ensures.state c.read_unsigned_var.ensures.reads enough)

pub returns-clause-short : goal.returns-clause-short
returns-clause-short c =
    let word = unsigned-word High 16 12 (omega arith) in
    rw (← c.new.ensures.bytes) (λ few. sym (map_same c.read_unsigned_var.result)
    ∙ word_short word slice_ends c.new-reader.ensures.state c.read_unsigned_var.ensures.reads few)
