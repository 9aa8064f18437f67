-- Made by `./format` from formats/wav_format.fields: edit that file and make this one anew.
use Rattle.bitstream_formats.specs.WavFormat.{wav_format_decoder, wav_format_at, coding_of}
use Rattle.bitstream_formats.proofs.WavFormatLemmas.{wav_format_packs, told}
use Rattle.std.proofs.Common.{◌++◌, ◌∙◌, ℕ, List, Ok, refl, ap, sym, arith}
use Rattle.bitstream_io.proofs.CallerLemmas.{Finds, fields_there, fields_short, prefix_answered, slice_ends, unsigned-finds, pure-finds, made-finds, packs-whole}
use Rattle.bitstream_io.proofs.SliceLemmas.{new_answer}
use Rattle.bitstream_io.specs.Callers.{Low, bits}
use Rattle.bitstream_formats.proofs.wav_format.WavFormat.parse.Goals as goal

found : (packet : List ℕ)
    → Finds (bits Low packet) 0 (wav_format_decoder Low) 128 (Ok (wav_format_at (bits Low packet)))
found packet = made-finds _ _ 128 _ 16 Low 16 coding_of _ refl refl (unsigned-finds _ _ 16 112 _ Low 16 _ refl refl
    (unsigned-finds _ _ 32 96 _ Low 32 _ refl refl (unsigned-finds _ _ 32 64 _ Low 32 _ refl refl (unsigned-finds _ _ 16
    32 _ Low 16 _ refl refl (unsigned-finds _ _ 16 16 _ Low 16 _ refl refl (pure-finds _ _ _))))))

pub returns-clause-answer : goal.returns-clause-answer
returns-clause-answer c = new_answer slice_ends _ _ c.over.ensures.state c.read.ensures

pub returns-clause-there : goal.returns-clause-there
returns-clause-there c = λ enough. fields_there slice_ends c.over.ensures.state refl c.read.ensures (found _) (omega
    arith)

pub returns-clause-short : goal.returns-clause-short
returns-clause-short c = λ few. fields_short slice_ends c.over.ensures.state refl c.read.ensures (found _) (omega arith)

pub returns-clause-back : goal.returns-clause-back
returns-clause-back c = λ value more fits is.
    prefix_answered slice_ends c.over.ensures.state refl c.read.ensures (ap ((wav_format_decoder Low).reads 0) (is ∙ ap
    (λ w. w ++ more) (sym (told value) ∙ packs-whole (wav_format_packs Low value fits) refl)) ∙
    c.wav_format_round_trip.ensures.back Low value 0 0 more fits)
