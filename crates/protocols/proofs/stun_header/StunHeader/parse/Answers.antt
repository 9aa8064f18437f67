-- Made by `./format` from formats/stun_header.fields: edit that file and make this one anew.
use Rattle.protocols.specs.StunHeader.{stun_header_decoder, stun_header_at, const_at_0, const_at_32}
use Rattle.protocols.proofs.StunHeaderLemmas.{stun_header_packs, told}
use Rattle.protocols.specs.declared.stun_header.StunHeaderError.TheVariants.{NoStun, NoCookie}
use Rattle.std.proofs.Common.{◌≡◌, ◌≢◌, ◌<◌, ◌*◌, ◌++◌, ◌∙◌, ℕ, List, Ok, Err, length, refl, ap, sym, arith}
use Rattle.std.proofs.lemmas.Bool.{cases_lt}
use Rattle.std.proofs.lemmas.Bool.Decides.{eqb_tells}
use Rattle.bitstream_io.proofs.CallerLemmas.{Finds, inl, inr, is_error, own_answered, own_fields_there, own_fields_short, own_prefix_answered, slice_ends, unsigned-finds, bytes-finds, const-finds, const-misses, pure-finds, packs-whole}
use Rattle.bitstream_io.specs.Callers.{High, bits}
use Rattle.protocols.proofs.stun_header.StunHeader.parse.Goals as goal

found : (packet : List ℕ) → const_at_0 (bits High packet) ≡ 0 → const_at_32 (bits High packet) ≡ 554869826
    → Finds (bits High packet) 0 (stun_header_decoder High) 160 (Ok (Ok (stun_header_at (bits High packet))))
found packet is_0 is_3 = const-finds _ _ 2 160 _ High 0 _ refl is_0 (unsigned-finds _ _ 14 158 _ High 16 _ refl refl
    (unsigned-finds _ _ 16 144 _ High 16 _ refl refl (const-finds _ _ 32 128 _ High 554869826 _ refl is_3 (bytes-finds _
    _ 96 _ 12 High _ refl (pure-finds _ _ _)))))

other_0 : (packet : List ℕ) → const_at_0 (bits High packet) ≢ 0
    → Finds (bits High packet) 0 (stun_header_decoder High) 2 (Ok (Err NoStun))
other_0 packet differs = const-misses _ _ 2 2 _ High 0 _ refl differs (pure-finds _ _ _)

other_3 : (packet : List ℕ) → const_at_0 (bits High packet) ≡ 0 → const_at_32 (bits High packet) ≢ 554869826
    → Finds (bits High packet) 0 (stun_header_decoder High) 64 (Ok (Err NoCookie))
other_3 packet is_0 differs = const-finds _ _ 2 64 _ High 0 _ refl is_0 (unsigned-finds _ _ 14 62 _ High 16 _ refl refl
    (unsigned-finds _ _ 16 48 _ High 16 _ refl refl (const-misses _ _ 32 32 _ High 554869826 _ refl differs (pure-finds
    _ _ _))))

pub returns-clause-answer : goal.returns-clause-answer
returns-clause-answer c = own_answered slice_ends c.over.ensures.state refl c.read.ensures

pub returns-clause-no_stun : goal.returns-clause-no_stun
returns-clause-no_stun c = λ enough differs. own_fields_there slice_ends c.over.ensures.state refl c.read.ensures
    (other_0 _ differs) (omega arith)

pub returns-clause-no_cookie : goal.returns-clause-no_cookie
returns-clause-no_cookie c = λ enough is_0 differs. own_fields_there slice_ends c.over.ensures.state refl c.read.ensures
    (other_3 _ is_0 differs) (omega arith)

pub returns-clause-there : goal.returns-clause-there
returns-clause-there c = λ enough is_0 is_3. own_fields_there slice_ends c.over.ensures.state refl c.read.ensures (found
    _ is_0 is_3) (omega arith)

pub returns-clause-short : goal.returns-clause-short
returns-clause-short c = λ few at_0 at_3.
    let all = bits High c.args.packet.now in
    let ended = λ (n : ℕ) (x : _) (found : Finds all 0 (stun_header_decoder High) n x) (less : 8 * length
    c.args.packet.now < n). is_error _ _
    (own_fields_short slice_ends c.over.ensures.state refl c.read.ensures found less) in
    elim (eqb_tells (const_at_0 all) 0) [
      | inl is_0 ↦ elim (eqb_tells (const_at_32 all) 554869826) [
        | inl is_3 ↦ ended
            160 _ (found _ is_0.1 is_3.1) (omega arith)
        | inr differs ↦ elim (cases_lt (length c.args.packet.now) 8) [
          | inl
              less ↦ ended 64 _ (other_3 _ is_0.1 differs.1) (omega arith)
          | inr enough ↦ absurd (differs.1 (at_3 enough))
        ]
      ]
      | inr differs ↦ elim (cases_lt (length c.args.packet.now) 1) [
        | inl less ↦ ended 2 _ (other_0 _ differs.1)
            (omega arith)
        | inr enough ↦ absurd (differs.1 (at_0 enough))
      ]
    ]

pub returns-clause-back : goal.returns-clause-back
returns-clause-back c = λ value more fits is.
    own_prefix_answered slice_ends c.over.ensures.state refl c.read.ensures (ap ((stun_header_decoder High).reads 0) (is
    ∙ ap (λ w. w ++ more) (sym (told value) ∙ packs-whole (stun_header_packs High value fits) refl)) ∙
    c.stun_header_round_trip.ensures.back High value 0 0 more fits)
