-- Made by `./format` from formats/j1939_frame.fields: edit that file and make this one anew.
use Rattle.protocols.specs.J1939Frame.{j1939_frame_decoder, j1939_frame_at, const_at_0, const_at_32}
use Rattle.protocols.proofs.J1939FrameLemmas.{j1939_frame_packs, told}
use Rattle.protocols.specs.declared.j1939_frame.J1939Error.TheVariants.{OtherFrame, OtherSize}
use Rattle.std.proofs.Common.{◌≡◌, ◌≢◌, ◌<◌, ◌*◌, ◌++◌, ◌∙◌, ℕ, List, Ok, Err, length, refl, ap, sym, arith}
use Rattle.std.proofs.lemmas.Bool.{cases_lt}
use Rattle.std.proofs.lemmas.Bool.Decides.{eqb_tells}
use Rattle.bitstream_io.proofs.CallerLemmas.{Finds, inl, inr, is_error, own_answered, own_fields_there, own_fields_short, own_prefix_answered, slice_ends, bit-finds, unsigned-finds, bytes-finds, skip-finds, const-finds, const-misses, pure-finds, packs-whole}
use Rattle.bitstream_io.specs.Callers.{High, bits}
use Rattle.protocols.proofs.j1939_frame.J1939Frame.parse.Goals as goal

found : (packet : List ℕ) → const_at_0 (bits High packet) ≡ 4 → const_at_32 (bits High packet) ≡ 8
    → Finds (bits High packet) 0 (j1939_frame_decoder High) 128 (Ok (Ok (j1939_frame_at (bits High packet))))
found packet is_0 is_7 = const-finds _ _ 3 128 _ High 4 _ refl is_0 (unsigned-finds _ _ 3 125 _ High 8 _ refl refl
    (bit-finds _ _ 122 _ _ refl (bit-finds _ _ 121 _ _ refl (unsigned-finds _ _ 8 120 _ High 8 _ refl refl
    (unsigned-finds _ _ 8 112 _ High 8 _ refl refl (unsigned-finds _ _ 8 104 _ High 8 _ refl refl (const-finds _ _ 8 96
    _ High 8 _ refl is_7 (skip-finds _ _ 24 88 _ _ refl (bytes-finds _ _ 64 _ 8 High _ refl (pure-finds _ _ _))))))))))

other_0 : (packet : List ℕ) → const_at_0 (bits High packet) ≢ 4
    → Finds (bits High packet) 0 (j1939_frame_decoder High) 3 (Ok (Err OtherFrame))
other_0 packet differs = const-misses _ _ 3 3 _ High 4 _ refl differs (pure-finds _ _ _)

other_7 : (packet : List ℕ) → const_at_0 (bits High packet) ≡ 4 → const_at_32 (bits High packet) ≢ 8
    → Finds (bits High packet) 0 (j1939_frame_decoder High) 40 (Ok (Err OtherSize))
other_7 packet is_0 differs = const-finds _ _ 3 40 _ High 4 _ refl is_0 (unsigned-finds _ _ 3 37 _ High 8 _ refl refl
    (bit-finds _ _ 34 _ _ refl (bit-finds _ _ 33 _ _ refl (unsigned-finds _ _ 8 32 _ High 8 _ refl refl (unsigned-finds
    _ _ 8 24 _ High 8 _ refl refl (unsigned-finds _ _ 8 16 _ High 8 _ refl refl (const-misses _ _ 8 8 _ High 8 _ refl
    differs (pure-finds _ _ _))))))))

pub returns-clause-answer : goal.returns-clause-answer
returns-clause-answer c = own_answered slice_ends c.over.ensures.state refl c.read.ensures

pub returns-clause-other_frame : goal.returns-clause-other_frame
returns-clause-other_frame c = λ enough differs. own_fields_there slice_ends c.over.ensures.state refl c.read.ensures
    (other_0 _ differs) (omega arith)

pub returns-clause-other_size : goal.returns-clause-other_size
returns-clause-other_size c = λ enough is_0 differs. own_fields_there slice_ends c.over.ensures.state refl
    c.read.ensures (other_7 _ is_0 differs) (omega arith)

pub returns-clause-there : goal.returns-clause-there
returns-clause-there c = λ enough is_0 is_7. own_fields_there slice_ends c.over.ensures.state refl c.read.ensures (found
    _ is_0 is_7) (omega arith)

pub returns-clause-short : goal.returns-clause-short
returns-clause-short c = λ few at_0 at_7.
    let all = bits High c.args.packet.now in
    let ended = λ (n : ℕ) (x : _) (found : Finds all 0 (j1939_frame_decoder High) n x) (less : 8 * length
    c.args.packet.now < n). is_error _ _
    (own_fields_short slice_ends c.over.ensures.state refl c.read.ensures found less) in
    elim (eqb_tells (const_at_0 all) 4) [
      | inl is_0 ↦ elim (eqb_tells (const_at_32 all) 8) [
        | inl is_7 ↦ ended 128 _
            (found _ is_0.1 is_7.1) (omega arith)
        | inr differs ↦ elim (cases_lt (length c.args.packet.now) 5) [
          | inl less
              ↦ ended 40 _ (other_7 _ is_0.1 differs.1) (omega arith)
          | inr enough ↦ absurd (differs.1 (at_7 enough))
        ]
      ]
      | inr differs ↦ elim (cases_lt (length c.args.packet.now) 1) [
        | inl less ↦ ended 3 _ (other_0 _ differs.1) (omega
            arith)
        | inr enough ↦ absurd (differs.1 (at_0 enough))
      ]
    ]

pub returns-clause-back : goal.returns-clause-back
returns-clause-back c = λ value more fits is.
    own_prefix_answered slice_ends c.over.ensures.state refl c.read.ensures (ap ((j1939_frame_decoder High).reads 0) (is
    ∙ ap (λ w. w ++ more) (sym (told value) ∙ packs-whole (j1939_frame_packs High value fits) refl)) ∙
    c.j1939_frame_round_trip.ensures.back High value 0 0 more fits)
