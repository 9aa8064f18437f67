use Rattle.std.proofs.Common.{refl, arith}
use Rattle.bitstream_io.specs.Word.{Low}
use Rattle.bitstream_io.proofs.SliceEnds.{slice_ends}
use Rattle.bitstream_io.proofs.SureLemmas.{non_zero-word, word_there, word_short}
use Rattle.bitstream_bench.proofs.sure.first_track.Goals as goal

pub returns-clause-there : goal.returns-clause-there
returns-clause-there c =
    let word = non_zero-word _ Low 8 4 (omega arith) in
    rw (← c.new.ensures.bytes) (λ enough. rw (word_there word slice_ends c.new-reader.ensures.state
    c.read_var.ensures.reads enough) refl)

pub returns-clause-short : goal.returns-clause-short
returns-clause-short c =
    let word = non_zero-word _ Low 8 4 (omega arith) in
    rw (← c.new.ensures.bytes) (λ few. word_short word slice_ends c.new-reader.ensures.state c.read_var.ensures.reads
    few)
