-- Made by `./format` from formats/mac_frame_control.fields: edit that file and make this one anew.
use Rattle.protocols.specs.MacFrameControl.{mac_frame_control_decoder, mac_frame_control_at, frame_kind_of, address_mode_of}
use Rattle.protocols.proofs.MacFrameControlLemmas.{mac_frame_control_packs, told}
use Rattle.std.proofs.Common.{◌++◌, ◌∙◌, ℕ, List, Ok, refl, ap, sym, arith}
use Rattle.bitstream_io.proofs.CallerLemmas.{Finds, fields_there, fields_short, prefix_answered, slice_ends, bit-finds, unsigned-finds, skip-finds, pure-finds, made-finds, packs-whole}
use Rattle.bitstream_io.proofs.SliceLemmas.{new_answer}
use Rattle.bitstream_io.specs.Callers.{Low, bits}
use Rattle.protocols.proofs.mac_frame_control.MacFrameControl.parse.Goals as goal

found : (packet : List ℕ)
    → Finds (bits Low packet) 0 (mac_frame_control_decoder Low) 16 (Ok (mac_frame_control_at (bits Low packet)))
found packet = made-finds _ _ 16 _ 3 Low 8 frame_kind_of _ refl refl (bit-finds _ _ 13 _ _ refl (bit-finds _ _ 12 _ _
    refl (bit-finds _ _ 11 _ _ refl (bit-finds _ _ 10 _ _ refl (skip-finds _ _ 1 9 _ _ refl (bit-finds _ _ 8 _ _ refl
    (bit-finds _ _ 7 _ _ refl (made-finds _ _ 6 _ 2 Low 8 address_mode_of _ refl refl (unsigned-finds _ _ 2 4 _ Low 8 _
    refl refl (made-finds _ _ 2 _ 2 Low 8 address_mode_of _ refl refl (pure-finds _ _ _)))))))))))

pub returns-clause-answer : goal.returns-clause-answer
returns-clause-answer c = new_answer slice_ends _ _ c.over.ensures.state c.read.ensures

pub returns-clause-there : goal.returns-clause-there
returns-clause-there c = λ enough. fields_there slice_ends c.over.ensures.state refl c.read.ensures (found _) (omega
    arith)

pub returns-clause-short : goal.returns-clause-short
returns-clause-short c = λ few. fields_short slice_ends c.over.ensures.state refl c.read.ensures (found _) (omega arith)

pub returns-clause-back : goal.returns-clause-back
returns-clause-back c = λ value more fits is.
    prefix_answered slice_ends c.over.ensures.state refl c.read.ensures (ap ((mac_frame_control_decoder Low).reads 0)
    (is ∙ ap (λ w. w ++ more) (sym (told value) ∙ packs-whole (mac_frame_control_packs Low value fits) refl)) ∙
    c.mac_frame_control_round_trip.ensures.back Low value 0 0 more fits)
