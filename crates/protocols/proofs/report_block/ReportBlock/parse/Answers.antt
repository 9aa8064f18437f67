-- Made by `./format` from formats/report_block.fields: edit that file and make this one anew.
use Rattle.protocols.specs.ReportBlock.{report_block_decoder, report_block_at}
use Rattle.protocols.proofs.ReportBlockLemmas.{report_block_packs, told}
use Rattle.std.proofs.Common.{◌++◌, ◌∙◌, ℕ, List, Ok, refl, ap, sym, arith}
use Rattle.bitstream_io.proofs.CallerLemmas.{Finds, fields_there, fields_short, prefix_answered, slice_ends, signed-finds, unsigned-finds, pure-finds, packs-whole}
use Rattle.bitstream_io.proofs.SliceLemmas.{new_answer}
use Rattle.bitstream_io.specs.Callers.{High, bits}
use Rattle.protocols.proofs.report_block.ReportBlock.parse.Goals as goal

found : (packet : List ℕ)
    → Finds (bits High packet) 0 (report_block_decoder High) 192 (Ok (report_block_at (bits High packet)))
found packet = unsigned-finds _ _ 32 192 _ High 32 _ refl refl (unsigned-finds _ _ 8 160 _ High 8 _ refl refl
    (signed-finds _ _ 24 152 _ High 32 _ refl refl refl (unsigned-finds _ _ 32 128 _ High 32 _ refl refl (unsigned-finds
    _ _ 32 96 _ High 32 _ refl refl (unsigned-finds _ _ 32 64 _ High 32 _ refl refl (unsigned-finds _ _ 32 32 _ High 32
    _ refl refl (pure-finds _ _ _)))))))

pub returns-clause-answer : goal.returns-clause-answer
returns-clause-answer c = new_answer slice_ends _ _ c.over.ensures.state c.read.ensures

pub returns-clause-there : goal.returns-clause-there
returns-clause-there c = λ enough. fields_there slice_ends c.over.ensures.state refl c.read.ensures (found _) (omega
    arith)

pub returns-clause-short : goal.returns-clause-short
returns-clause-short c = λ few. fields_short slice_ends c.over.ensures.state refl c.read.ensures (found _) (omega arith)

pub returns-clause-back : goal.returns-clause-back
returns-clause-back c = λ value more fits is.
    prefix_answered slice_ends c.over.ensures.state refl c.read.ensures (ap ((report_block_decoder High).reads 0) (is ∙
    ap (λ w. w ++ more) (sym (told value) ∙ packs-whole (report_block_packs High value fits) refl)) ∙
    c.report_block_round_trip.ensures.back High value 0 0 more fits)
