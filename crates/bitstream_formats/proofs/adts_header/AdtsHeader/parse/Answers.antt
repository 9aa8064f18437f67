-- Made by `./format` from formats/adts_header.fields: edit that file and make this one anew.
use Rattle.bitstream_formats.specs.AdtsHeader.{adts_header_decoder, adts_header_at, const_at_0, const_at_13}
use Rattle.bitstream_formats.proofs.AdtsHeaderLemmas.{adts_header_packs, told}
use Rattle.bitstream_formats.specs.declared.adts_header.AdtsHeaderError.TheVariants.{NoSync, UnknownLayer}
use Rattle.std.proofs.Common.{◌≡◌, ◌≢◌, ◌<◌, ◌*◌, ◌++◌, ◌∙◌, ℕ, List, Ok, Err, length, refl, ap, sym, arith}
use Rattle.std.proofs.lemmas.Bool.{cases_lt}
use Rattle.std.proofs.lemmas.Bool.Decides.{eqb_tells}
use Rattle.bitstream_io.proofs.CallerLemmas.{Finds, inl, inr, is_error, own_answered, own_fields_there, own_fields_short, own_prefix_answered, slice_ends, bit-finds, unsigned-finds, const-finds, const-misses, pure-finds, packs-whole}
use Rattle.bitstream_io.specs.Callers.{High, bits}
use Rattle.bitstream_formats.proofs.adts_header.AdtsHeader.parse.Goals as goal

found : (packet : List ℕ) → const_at_0 (bits High packet) ≡ 4095 → const_at_13 (bits High packet) ≡ 0
    → Finds (bits High packet) 0 (adts_header_decoder High) 56 (Ok (Ok (adts_header_at (bits High packet))))
found packet is_0 is_2 = const-finds _ _ 12 56 _ High 4095 _ refl is_0 (bit-finds _ _ 44 _ _ refl (const-finds _ _ 2 43
    _ High 0 _ refl is_2 (bit-finds _ _ 41 _ _ refl (unsigned-finds _ _ 2 40 _ High 8 _ refl refl (unsigned-finds _ _ 4
    38 _ High 8 _ refl refl (bit-finds _ _ 34 _ _ refl (unsigned-finds _ _ 3 33 _ High 8 _ refl refl (bit-finds _ _ 30 _
    _ refl (bit-finds _ _ 29 _ _ refl (bit-finds _ _ 28 _ _ refl (bit-finds _ _ 27 _ _ refl (unsigned-finds _ _ 13 26 _
    High 16 _ refl refl (unsigned-finds _ _ 11 13 _ High 16 _ refl refl (unsigned-finds _ _ 2 2 _ High 8 _ refl refl
    (pure-finds _ _ _)))))))))))))))

other_0 : (packet : List ℕ) → const_at_0 (bits High packet) ≢ 4095
    → Finds (bits High packet) 0 (adts_header_decoder High) 12 (Ok (Err NoSync))
other_0 packet differs = const-misses _ _ 12 12 _ High 4095 _ refl differs (pure-finds _ _ _)

other_2 : (packet : List ℕ) → const_at_0 (bits High packet) ≡ 4095 → const_at_13 (bits High packet) ≢ 0
    → Finds (bits High packet) 0 (adts_header_decoder High) 15 (Ok (Err UnknownLayer))
other_2 packet is_0 differs = const-finds _ _ 12 15 _ High 4095 _ refl is_0 (bit-finds _ _ 3 _ _ refl (const-misses _ _
    2 2 _ High 0 _ refl differs (pure-finds _ _ _)))

pub returns-clause-answer : goal.returns-clause-answer
returns-clause-answer c = own_answered slice_ends c.over.ensures.state refl c.read.ensures

pub returns-clause-no_sync : goal.returns-clause-no_sync
returns-clause-no_sync c = λ enough differs. own_fields_there slice_ends c.over.ensures.state refl c.read.ensures
    (other_0 _ differs) (omega arith)

pub returns-clause-unknown_layer : goal.returns-clause-unknown_layer
returns-clause-unknown_layer c = λ enough is_0 differs. own_fields_there slice_ends c.over.ensures.state refl
    c.read.ensures (other_2 _ is_0 differs) (omega arith)

pub returns-clause-there : goal.returns-clause-there
returns-clause-there c = λ enough is_0 is_2. own_fields_there slice_ends c.over.ensures.state refl c.read.ensures (found
    _ is_0 is_2) (omega arith)

pub returns-clause-short : goal.returns-clause-short
returns-clause-short c = λ few at_0 at_2.
    let all = bits High c.args.packet.now in
    let ended = λ (n : ℕ) (x : _) (found : Finds all 0 (adts_header_decoder High) n x) (less : 8 * length
    c.args.packet.now < n). is_error _ _
    (own_fields_short slice_ends c.over.ensures.state refl c.read.ensures found less) in
    elim (eqb_tells (const_at_0 all) 4095) [
      | inl is_0 ↦ elim (eqb_tells (const_at_13 all) 0) [
        | inl is_2 ↦ ended 56 _
            (found _ is_0.1 is_2.1) (omega arith)
        | inr differs ↦ elim (cases_lt (length c.args.packet.now) 2) [
          | inl less
              ↦ ended 15 _ (other_2 _ is_0.1 differs.1) (omega arith)
          | inr enough ↦ absurd (differs.1 (at_2 enough))
        ]
      ]
      | inr differs ↦ elim (cases_lt (length c.args.packet.now) 2) [
        | inl less ↦ ended 12 _ (other_0 _ differs.1)
            (omega arith)
        | inr enough ↦ absurd (differs.1 (at_0 enough))
      ]
    ]

pub returns-clause-back : goal.returns-clause-back
returns-clause-back c = λ value more fits is.
    own_prefix_answered slice_ends c.over.ensures.state refl c.read.ensures (ap ((adts_header_decoder High).reads 0) (is
    ∙ ap (λ w. w ++ more) (sym (told value) ∙ packs-whole (adts_header_packs High value fits) refl)) ∙
    c.adts_header_round_trip.ensures.back High value 0 0 more fits)
