-- Made by `./format` from formats/riff_chunk.fields: edit that file and make this one anew.
use Rattle.bitstream_formats.specs.RiffChunk.{riff_chunk_decoder, riff_chunk_at}
use Rattle.bitstream_formats.proofs.RiffChunkLemmas.{riff_chunk_packs, told}
use Rattle.std.proofs.Common.{◌++◌, ◌∙◌, ℕ, List, Ok, refl, ap, sym, arith}
use Rattle.bitstream_io.proofs.CallerLemmas.{Finds, fields_there, fields_short, prefix_answered, slice_ends, unsigned-finds, bytes-finds, pure-finds, packs-whole}
use Rattle.bitstream_io.proofs.SliceLemmas.{new_answer}
use Rattle.bitstream_io.specs.Callers.{Low, bits}
use Rattle.bitstream_formats.proofs.riff_chunk.RiffChunk.parse.Goals as goal

found : (packet : List ℕ)
    → Finds (bits Low packet) 0 (riff_chunk_decoder Low) 64 (Ok (riff_chunk_at (bits Low packet)))
found packet = bytes-finds _ _ 64 _ 4 Low _ refl (unsigned-finds _ _ 32 32 _ Low 32 _ refl refl (pure-finds _ _ _))

pub returns-clause-answer : goal.returns-clause-answer
returns-clause-answer c = new_answer slice_ends _ _ c.over.ensures.state c.read.ensures

pub returns-clause-there : goal.returns-clause-there
returns-clause-there c = λ enough. fields_there slice_ends c.over.ensures.state refl c.read.ensures (found _) (omega
    arith)

pub returns-clause-short : goal.returns-clause-short
returns-clause-short c = λ few. fields_short slice_ends c.over.ensures.state refl c.read.ensures (found _) (omega arith)

pub returns-clause-back : goal.returns-clause-back
returns-clause-back c = λ value more fits is.
    prefix_answered slice_ends c.over.ensures.state refl c.read.ensures (ap ((riff_chunk_decoder Low).reads 0) (is ∙ ap
    (λ w. w ++ more) (sym (told value) ∙ packs-whole (riff_chunk_packs Low value fits) refl)) ∙
    c.riff_chunk_round_trip.ensures.back Low value 0 0 more fits)
