-- Made by `./format` from formats/flac_info.fields: edit that file and make this one anew.
use Rattle.media_messages.specs.FlacInfo.{flac_info_decoder, flac_info_at}
use Rattle.media_messages.proofs.FlacInfoLemmas.{flac_info_packs, told}
use Rattle.std.proofs.Common.{◌++◌, ◌∙◌, ℕ, List, Ok, refl, ap, sym, arith}
use Rattle.bitstream_io.proofs.CallerLemmas.{Finds, fields_there, fields_short, prefix_answered, slice_ends, unsigned-finds, bytes-finds, non_zero-finds, pure-finds, packs-whole}
use Rattle.bitstream_io.proofs.SliceLemmas.{new_answer}
use Rattle.bitstream_io.specs.Callers.{High, bits, non_zero_u8}
use Rattle.media_messages.proofs.flac_info.FlacInfo.parse.Goals as goal

found : (packet : List ℕ)
    → Finds (bits High packet) 0 (flac_info_decoder High) 272 (Ok (flac_info_at (bits High packet)))
found packet = unsigned-finds _ _ 16 272 _ High 16 _ refl refl (unsigned-finds _ _ 16 256 _ High 16 _ refl refl
    (unsigned-finds _ _ 24 240 _ High 32 _ refl refl (unsigned-finds _ _ 24 216 _ High 32 _ refl refl (unsigned-finds _
    _ 20 192 _ High 32 _ refl refl (non_zero-finds _ _ 3 172 _ non_zero_u8 High 8 _ refl refl (non_zero-finds _ _ 5 169
    _ non_zero_u8 High 8 _ refl refl (unsigned-finds _ _ 36 164 _ High 64 _ refl refl (bytes-finds _ _ 128 _ 16 High _
    refl (pure-finds _ _ _)))))))))

pub returns-clause-answer : goal.returns-clause-answer
returns-clause-answer c = new_answer slice_ends _ _ c.over.ensures.state c.read.ensures

pub returns-clause-there : goal.returns-clause-there
returns-clause-there c = λ enough. fields_there slice_ends c.over.ensures.state refl c.read.ensures (found _) (omega
    arith)

pub returns-clause-short : goal.returns-clause-short
returns-clause-short c = λ few. fields_short slice_ends c.over.ensures.state refl c.read.ensures (found _) (omega arith)

pub returns-clause-back : goal.returns-clause-back
returns-clause-back c = λ value more fits is.
    prefix_answered slice_ends c.over.ensures.state refl c.read.ensures (ap ((flac_info_decoder High).reads 0) (is ∙ ap
    (λ w. w ++ more) (sym (told value) ∙ packs-whole (flac_info_packs High value fits) refl)) ∙
    c.flac_info_round_trip.ensures.back High value 0 0 more fits)
