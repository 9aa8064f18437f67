-- Made by `./format` from formats/ogg_header.fields: edit that file and make this one anew.
use Rattle.bitstream_formats.specs.OggHeader.{ogg_header_decoder, ogg_header_at, const_at_0, const_at_32}
use Rattle.bitstream_formats.proofs.OggHeaderLemmas.{ogg_header_packs, told}
use Rattle.bitstream_formats.specs.declared.ogg_header.OggHeaderError.TheVariants.{NoCapture, UnknownVersion}
use Rattle.std.proofs.Common.{◌≡◌, ◌≢◌, ◌<◌, ◌*◌, ◌++◌, ◌∙◌, ℕ, List, Ok, Err, length, refl, ap, sym, arith}
use Rattle.std.proofs.lemmas.Bool.{cases_lt}
use Rattle.std.proofs.lemmas.Bool.Decides.{eqb_tells}
use Rattle.bitstream_io.proofs.CallerLemmas.{Finds, inl, inr, is_error, own_answered, own_fields_there, own_fields_short, own_prefix_answered, slice_ends, bit-finds, unsigned-finds, const-finds, const-misses, pure-finds, packs-whole}
use Rattle.bitstream_io.specs.Callers.{Low, bits}
use Rattle.bitstream_formats.proofs.ogg_header.OggHeader.parse.Goals as goal

found : (packet : List ℕ) → const_at_0 (bits Low packet) ≡ 1399285583 → const_at_32 (bits Low packet) ≡ 0
    → Finds (bits Low packet) 0 (ogg_header_decoder Low) 216 (Ok (Ok (ogg_header_at (bits Low packet))))
found packet is_0 is_1 = const-finds _ _ 32 216 _ Low 1399285583 _ refl is_0 (const-finds _ _ 8 184 _ Low 0 _ refl is_1
    (bit-finds _ _ 176 _ _ refl (bit-finds _ _ 175 _ _ refl (bit-finds _ _ 174 _ _ refl (unsigned-finds _ _ 5 173 _ Low
    8 _ refl refl (unsigned-finds _ _ 64 168 _ Low 64 _ refl refl (unsigned-finds _ _ 32 104 _ Low 32 _ refl refl
    (unsigned-finds _ _ 32 72 _ Low 32 _ refl refl (unsigned-finds _ _ 32 40 _ Low 32 _ refl refl (unsigned-finds _ _ 8
    8 _ Low 8 _ refl refl (pure-finds _ _ _)))))))))))

other_0 : (packet : List ℕ) → const_at_0 (bits Low packet) ≢ 1399285583
    → Finds (bits Low packet) 0 (ogg_header_decoder Low) 32 (Ok (Err NoCapture))
other_0 packet differs = const-misses _ _ 32 32 _ Low 1399285583 _ refl differs (pure-finds _ _ _)

other_1 : (packet : List ℕ) → const_at_0 (bits Low packet) ≡ 1399285583 → const_at_32 (bits Low packet) ≢ 0
    → Finds (bits Low packet) 0 (ogg_header_decoder Low) 40 (Ok (Err UnknownVersion))
other_1 packet is_0 differs = const-finds _ _ 32 40 _ Low 1399285583 _ refl is_0 (const-misses _ _ 8 8 _ Low 0 _ refl
    differs (pure-finds _ _ _))

pub returns-clause-answer : goal.returns-clause-answer
returns-clause-answer c = own_answered slice_ends c.over.ensures.state refl c.read.ensures

pub returns-clause-no_capture : goal.returns-clause-no_capture
returns-clause-no_capture c = λ enough differs. own_fields_there slice_ends c.over.ensures.state refl c.read.ensures
    (other_0 _ differs) (omega arith)

pub returns-clause-unknown_version : goal.returns-clause-unknown_version
returns-clause-unknown_version c = λ enough is_0 differs. own_fields_there slice_ends c.over.ensures.state refl
    c.read.ensures (other_1 _ is_0 differs) (omega arith)

pub returns-clause-there : goal.returns-clause-there
returns-clause-there c = λ enough is_0 is_1. own_fields_there slice_ends c.over.ensures.state refl c.read.ensures (found
    _ is_0 is_1) (omega arith)

pub returns-clause-short : goal.returns-clause-short
returns-clause-short c = λ few at_0 at_1.
    let all = bits Low c.args.packet.now in
    let ended = λ (n : ℕ) (x : _) (found : Finds all 0 (ogg_header_decoder Low) n x) (less : 8 * length
    c.args.packet.now < n). is_error _ _
    (own_fields_short slice_ends c.over.ensures.state refl c.read.ensures found less) in
    elim (eqb_tells (const_at_0 all) 1399285583) [
      | inl is_0 ↦ elim (eqb_tells (const_at_32 all) 0) [
        | inl is_1 ↦
            ended 216 _ (found _ is_0.1 is_1.1) (omega arith)
        | inr differs ↦ elim (cases_lt (length c.args.packet.now) 5) [
          | inl less ↦ ended 40 _ (other_1 _ is_0.1 differs.1) (omega arith)
          | inr enough ↦ absurd (differs.1 (at_1
              enough))
        ]
      ]
      | inr differs ↦ elim (cases_lt (length c.args.packet.now) 4) [
        | inl less ↦ ended 32 _ (other_0 _
            differs.1) (omega arith)
        | inr enough ↦ absurd (differs.1 (at_0 enough))
      ]
    ]

pub returns-clause-back : goal.returns-clause-back
returns-clause-back c = λ value more fits is.
    own_prefix_answered slice_ends c.over.ensures.state refl c.read.ensures (ap ((ogg_header_decoder Low).reads 0) (is ∙
    ap (λ w. w ++ more) (sym (told value) ∙ packs-whole (ogg_header_packs Low value fits) refl)) ∙
    c.ogg_header_round_trip.ensures.back Low value 0 0 more fits)
