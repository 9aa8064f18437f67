use Rattle.bitstream_format.specs.Examples.Sample.{sample, sample_places}
use Rattle.bitstream_format.specs.Format.{packed_told}
use Rattle.std.proofs.Common.{◌++◌, ◌∙◌, refl, ap, sym, arith}
use Rattle.bitstream_io.proofs.CallerLemmas.{prefix_answered, slice_ends, packs-whole}
use Rattle.bitstream_io.proofs.SliceLemmas.{new_answer}
use Rattle.bitstream_io.specs.Callers.{High}
use Rattle.bitstream_value.proofs.SureLemmas.{word_there, word_short}
use Rattle.bitstream_format.proofs.examples.sample.Sample.parse.Goals as goal

pub returns-clause-answer : goal.returns-clause-answer
returns-clause-answer c = new_answer slice_ends _ _ c.over.ensures.state c.read.ensures

pub returns-clause-there : goal.returns-clause-there
returns-clause-there c =
    λ enough. word_there (sample_places.is_word High) slice_ends c.over.ensures.state c.read.ensures (omega arith)

pub returns-clause-short : goal.returns-clause-short
returns-clause-short c =
    λ few. word_short (sample_places.is_word High) slice_ends c.over.ensures.state c.read.ensures (omega arith)

pub returns-clause-back : goal.returns-clause-back
returns-clause-back c =
    λ value more fits is. prefix_answered slice_ends c.over.ensures.state refl c.read.ensures
    (ap ((sample.read High).reads 0) (is ∙ ap (λ w. w ++ more) (sym (packed_told sample value)
    ∙ packs-whole (sample.packs High value fits) refl)) ∙ (sample.round_trip High value fits).back 0 0 more)
