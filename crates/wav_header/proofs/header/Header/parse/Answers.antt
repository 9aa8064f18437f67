-- Made by `./format` from formats/header.fields: edit that file and make this one anew.
use Rattle.wav_header.specs.Header.{header_decoder, header_at, const_at_0, const_at_64, const_at_96, const_at_128, const_at_288, coding_of}
use Rattle.wav_header.proofs.HeaderLemmas.{header_packs, told}
use Rattle.wav_header.specs.declared.header.HeaderError.TheVariants.{NoRiff, NoWave, NoFormat, LongFormat, NoData}
use Rattle.std.proofs.Common.{◌≡◌, ◌≢◌, ◌<◌, ◌*◌, ◌++◌, ◌∙◌, ℕ, List, Ok, Err, length, refl, ap, sym, arith}
use Rattle.std.proofs.lemmas.Bool.{cases_lt}
use Rattle.std.proofs.lemmas.Bool.Decides.{eqb_tells}
use Rattle.bitstream_io.proofs.CallerLemmas.{Finds, inl, inr, is_error, own_answered, own_fields_there, own_fields_short, own_prefix_answered, slice_ends, unsigned-finds, const-finds, const-misses, pure-finds, made-finds, packs-whole}
use Rattle.bitstream_io.specs.Callers.{Low, bits}
use Rattle.wav_header.proofs.header.Header.parse.Goals as goal

found : (packet : List ℕ) → const_at_0 (bits Low packet) ≡ 1179011410 → const_at_64 (bits Low packet) ≡ 1163280727 →
    const_at_96 (bits Low packet) ≡ 544501094 → const_at_128 (bits Low packet) ≡ 16 → const_at_288 (bits Low packet) ≡
    1635017060
    → Finds (bits Low packet) 0 (header_decoder Low) 352 (Ok (Ok (header_at (bits Low packet))))
found packet is_0 is_2 is_3 is_4 is_11 = const-finds _ _ 32 352 _ Low 1179011410 _ refl is_0 (unsigned-finds _ _ 32 320
    _ Low 32 _ refl refl (const-finds _ _ 32 288 _ Low 1163280727 _ refl is_2 (const-finds _ _ 32 256 _ Low 544501094 _
    refl is_3 (const-finds _ _ 32 224 _ Low 16 _ refl is_4 (made-finds _ _ 192 _ 16 Low 16 coding_of _ refl refl
    (unsigned-finds _ _ 16 176 _ Low 16 _ refl refl (unsigned-finds _ _ 32 160 _ Low 32 _ refl refl (unsigned-finds _ _
    32 128 _ Low 32 _ refl refl (unsigned-finds _ _ 16 96 _ Low 16 _ refl refl (unsigned-finds _ _ 16 80 _ Low 16 _ refl
    refl (const-finds _ _ 32 64 _ Low 1635017060 _ refl is_11 (unsigned-finds _ _ 32 32 _ Low 32 _ refl refl (pure-finds
    _ _ _)))))))))))))

other_0 : (packet : List ℕ) → const_at_0 (bits Low packet) ≢ 1179011410
    → Finds (bits Low packet) 0 (header_decoder Low) 32 (Ok (Err NoRiff))
other_0 packet differs = const-misses _ _ 32 32 _ Low 1179011410 _ refl differs (pure-finds _ _ _)

other_2 : (packet : List ℕ) → const_at_0 (bits Low packet) ≡ 1179011410 → const_at_64 (bits Low packet) ≢ 1163280727
    → Finds (bits Low packet) 0 (header_decoder Low) 96 (Ok (Err NoWave))
other_2 packet is_0 differs = const-finds _ _ 32 96 _ Low 1179011410 _ refl is_0 (unsigned-finds _ _ 32 64 _ Low 32 _
    refl refl (const-misses _ _ 32 32 _ Low 1163280727 _ refl differs (pure-finds _ _ _)))

other_3 : (packet : List ℕ) → const_at_0 (bits Low packet) ≡ 1179011410 → const_at_64 (bits Low packet) ≡ 1163280727 →
    const_at_96 (bits Low packet) ≢ 544501094
    → Finds (bits Low packet) 0 (header_decoder Low) 128 (Ok (Err NoFormat))
other_3 packet is_0 is_2 differs = const-finds _ _ 32 128 _ Low 1179011410 _ refl is_0 (unsigned-finds _ _ 32 96 _ Low
    32 _ refl refl (const-finds _ _ 32 64 _ Low 1163280727 _ refl is_2 (const-misses _ _ 32 32 _ Low 544501094 _ refl
    differs (pure-finds _ _ _))))

other_4 : (packet : List ℕ) → const_at_0 (bits Low packet) ≡ 1179011410 → const_at_64 (bits Low packet) ≡ 1163280727 →
    const_at_96 (bits Low packet) ≡ 544501094 → const_at_128 (bits Low packet) ≢ 16
    → Finds (bits Low packet) 0 (header_decoder Low) 160 (Ok (Err LongFormat))
other_4 packet is_0 is_2 is_3 differs = const-finds _ _ 32 160 _ Low 1179011410 _ refl is_0 (unsigned-finds _ _ 32 128 _
    Low 32 _ refl refl (const-finds _ _ 32 96 _ Low 1163280727 _ refl is_2 (const-finds _ _ 32 64 _ Low 544501094 _ refl
    is_3 (const-misses _ _ 32 32 _ Low 16 _ refl differs (pure-finds _ _ _)))))

other_11 : (packet : List ℕ) → const_at_0 (bits Low packet) ≡ 1179011410 → const_at_64 (bits Low packet) ≡ 1163280727 →
    const_at_96 (bits Low packet) ≡ 544501094 → const_at_128 (bits Low packet) ≡ 16 → const_at_288 (bits Low packet) ≢
    1635017060
    → Finds (bits Low packet) 0 (header_decoder Low) 320 (Ok (Err NoData))
other_11 packet is_0 is_2 is_3 is_4 differs = const-finds _ _ 32 320 _ Low 1179011410 _ refl is_0 (unsigned-finds _ _ 32
    288 _ Low 32 _ refl refl (const-finds _ _ 32 256 _ Low 1163280727 _ refl is_2 (const-finds _ _ 32 224 _ Low
    544501094 _ refl is_3 (const-finds _ _ 32 192 _ Low 16 _ refl is_4 (made-finds _ _ 160 _ 16 Low 16 coding_of _ refl
    refl (unsigned-finds _ _ 16 144 _ Low 16 _ refl refl (unsigned-finds _ _ 32 128 _ Low 32 _ refl refl (unsigned-finds
    _ _ 32 96 _ Low 32 _ refl refl (unsigned-finds _ _ 16 64 _ Low 16 _ refl refl (unsigned-finds _ _ 16 48 _ Low 16 _
    refl refl (const-misses _ _ 32 32 _ Low 1635017060 _ refl differs (pure-finds _ _ _))))))))))))

pub returns-clause-answer : goal.returns-clause-answer
returns-clause-answer c = own_answered slice_ends c.over.ensures.state refl c.read.ensures

pub returns-clause-no_riff : goal.returns-clause-no_riff
returns-clause-no_riff c = λ enough differs. own_fields_there slice_ends c.over.ensures.state refl c.read.ensures
    (other_0 _ differs) (omega arith)

pub returns-clause-no_wave : goal.returns-clause-no_wave
returns-clause-no_wave c = λ enough is_0 differs. own_fields_there slice_ends c.over.ensures.state refl c.read.ensures
    (other_2 _ is_0 differs) (omega arith)

pub returns-clause-no_format : goal.returns-clause-no_format
returns-clause-no_format c = λ enough is_0 is_2 differs. own_fields_there slice_ends c.over.ensures.state refl
    c.read.ensures (other_3 _ is_0 is_2 differs) (omega arith)

pub returns-clause-long_format : goal.returns-clause-long_format
returns-clause-long_format c = λ enough is_0 is_2 is_3 differs. own_fields_there slice_ends c.over.ensures.state refl
    c.read.ensures (other_4 _ is_0 is_2 is_3 differs) (omega arith)

pub returns-clause-no_data : goal.returns-clause-no_data
returns-clause-no_data c = λ enough is_0 is_2 is_3 is_4 differs. own_fields_there slice_ends c.over.ensures.state refl
    c.read.ensures (other_11 _ is_0 is_2 is_3 is_4 differs) (omega arith)

pub returns-clause-there : goal.returns-clause-there
returns-clause-there c = λ enough is_0 is_2 is_3 is_4 is_11. own_fields_there slice_ends c.over.ensures.state refl
    c.read.ensures (found _ is_0 is_2 is_3 is_4 is_11) (omega arith)

pub returns-clause-short : goal.returns-clause-short
returns-clause-short c = λ few at_0 at_2 at_3 at_4 at_11.
    let all = bits Low c.args.packet.now in
    let ended = λ (n : ℕ) (x : _) (found : Finds all 0 (header_decoder Low) n x) (less : 8 * length c.args.packet.now <
    n). is_error _ _
    (own_fields_short slice_ends c.over.ensures.state refl c.read.ensures found less) in
    elim (eqb_tells (const_at_0 all) 1179011410) [
      | inl is_0 ↦ elim (eqb_tells (const_at_64 all) 1163280727) [
        | inl
            is_2 ↦ elim (eqb_tells (const_at_96 all) 544501094) [
              | inl is_3 ↦ elim (eqb_tells (const_at_128 all) 16) [
                | inl is_4 ↦ elim (eqb_tells (const_at_288 all) 1635017060) [
                  | inl is_11 ↦ ended 352 _ (found _ is_0.1 is_2.1
                      is_3.1 is_4.1 is_11.1) (omega arith)
                  | inr differs ↦ elim (cases_lt (length c.args.packet.now) 40) [
                    | inl less
                        ↦ ended 320 _ (other_11 _ is_0.1 is_2.1 is_3.1 is_4.1 differs.1) (omega arith)
                    | inr enough ↦ absurd (differs.1
                        (at_11 enough))
                  ]
                ]
                | inr differs ↦ elim (cases_lt (length c.args.packet.now) 20) [
                  | inl less ↦ ended 160 _
                      (other_4 _ is_0.1 is_2.1 is_3.1 differs.1) (omega arith)
                  | inr enough ↦ absurd (differs.1 (at_4 enough))
                ]
              ]
              | inr differs ↦ elim (cases_lt (length c.args.packet.now) 16) [
                | inl less ↦ ended 128 _ (other_3 _ is_0.1 is_2.1
                    differs.1) (omega arith)
                | inr enough ↦ absurd (differs.1 (at_3 enough))
              ]
            ]
        | inr differs ↦ elim (cases_lt
            (length c.args.packet.now) 12) [
              | inl less ↦ ended 96 _ (other_2 _ is_0.1 differs.1) (omega arith)
              | inr enough
                  ↦ absurd (differs.1 (at_2 enough))
            ]
      ]
      | inr differs ↦ elim (cases_lt (length c.args.packet.now) 4) [
        | inl less
            ↦ ended 32 _ (other_0 _ differs.1) (omega arith)
        | inr enough ↦ absurd (differs.1 (at_0 enough))
      ]
    ]

pub returns-clause-back : goal.returns-clause-back
returns-clause-back c = λ value more fits is.
    own_prefix_answered slice_ends c.over.ensures.state refl c.read.ensures (ap ((header_decoder Low).reads 0) (is ∙ ap
    (λ w. w ++ more) (sym (told value) ∙ packs-whole (header_packs Low value fits) refl)) ∙
    c.header_round_trip.ensures.back Low value 0 0 more fits)
