-- Made by `./format` from formats/ipv4_header.fields: edit that file and make this one anew.
use Rattle.protocols.specs.Ipv4Header.{ipv4_header_decoder, ipv4_header_at, const_at_0, const_at_48, ecn_of, protocol_of}
use Rattle.protocols.proofs.Ipv4HeaderLemmas.{ipv4_header_packs, told}
use Rattle.protocols.specs.declared.ipv4_header.Ipv4Error.TheVariants.{OtherVersion, ReservedSet}
use Rattle.std.proofs.Common.{◌≡◌, ◌≢◌, ◌<◌, ◌*◌, ◌++◌, ◌∙◌, ℕ, List, Ok, Err, length, refl, ap, sym, arith}
use Rattle.std.proofs.lemmas.Bool.{cases_lt}
use Rattle.std.proofs.lemmas.Bool.Decides.{eqb_tells}
use Rattle.bitstream_io.proofs.CallerLemmas.{Finds, inl, inr, is_error, own_answered, own_fields_there, own_fields_short, own_prefix_answered, slice_ends, bit-finds, unsigned-finds, bytes-finds, const-finds, const-misses, pure-finds, made-finds, packs-whole}
use Rattle.bitstream_io.specs.Callers.{High, bits}
use Rattle.protocols.proofs.ipv4_header.Ipv4Header.parse.Goals as goal

found : (packet : List ℕ) → const_at_0 (bits High packet) ≡ 4 → const_at_48 (bits High packet) ≡ 0
    → Finds (bits High packet) 0 (ipv4_header_decoder High) 160 (Ok (Ok (ipv4_header_at (bits High packet))))
found packet is_0 is_6 = const-finds _ _ 4 160 _ High 4 _ refl is_0 (unsigned-finds _ _ 4 156 _ High 8 _ refl refl
    (unsigned-finds _ _ 6 152 _ High 8 _ refl refl (made-finds _ _ 146 _ 2 High 8 ecn_of _ refl refl (unsigned-finds _ _
    16 144 _ High 16 _ refl refl (unsigned-finds _ _ 16 128 _ High 16 _ refl refl (const-finds _ _ 1 112 _ High 0 _ refl
    is_6 (bit-finds _ _ 111 _ _ refl (bit-finds _ _ 110 _ _ refl (unsigned-finds _ _ 13 109 _ High 16 _ refl refl
    (unsigned-finds _ _ 8 96 _ High 8 _ refl refl (made-finds _ _ 88 _ 8 High 8 protocol_of _ refl refl (unsigned-finds
    _ _ 16 80 _ High 16 _ refl refl (bytes-finds _ _ 64 _ 4 High _ refl (bytes-finds _ _ 32 _ 4 High _ refl (pure-finds
    _ _ _)))))))))))))))

other_0 : (packet : List ℕ) → const_at_0 (bits High packet) ≢ 4
    → Finds (bits High packet) 0 (ipv4_header_decoder High) 4 (Ok (Err OtherVersion))
other_0 packet differs = const-misses _ _ 4 4 _ High 4 _ refl differs (pure-finds _ _ _)

other_6 : (packet : List ℕ) → const_at_0 (bits High packet) ≡ 4 → const_at_48 (bits High packet) ≢ 0
    → Finds (bits High packet) 0 (ipv4_header_decoder High) 49 (Ok (Err ReservedSet))
other_6 packet is_0 differs = const-finds _ _ 4 49 _ High 4 _ refl is_0 (unsigned-finds _ _ 4 45 _ High 8 _ refl refl
    (unsigned-finds _ _ 6 41 _ High 8 _ refl refl (made-finds _ _ 35 _ 2 High 8 ecn_of _ refl refl (unsigned-finds _ _
    16 33 _ High 16 _ refl refl (unsigned-finds _ _ 16 17 _ High 16 _ refl refl (const-misses _ _ 1 1 _ High 0 _ refl
    differs (pure-finds _ _ _)))))))

pub returns-clause-answer : goal.returns-clause-answer
returns-clause-answer c = own_answered slice_ends c.over.ensures.state refl c.read.ensures

pub returns-clause-other_version : goal.returns-clause-other_version
returns-clause-other_version c = λ enough differs. own_fields_there slice_ends c.over.ensures.state refl c.read.ensures
    (other_0 _ differs) (omega arith)

pub returns-clause-reserved_set : goal.returns-clause-reserved_set
returns-clause-reserved_set c = λ enough is_0 differs. own_fields_there slice_ends c.over.ensures.state refl
    c.read.ensures (other_6 _ is_0 differs) (omega arith)

pub returns-clause-there : goal.returns-clause-there
returns-clause-there c = λ enough is_0 is_6. own_fields_there slice_ends c.over.ensures.state refl c.read.ensures (found
    _ is_0 is_6) (omega arith)

pub returns-clause-short : goal.returns-clause-short
returns-clause-short c = λ few at_0 at_6.
    let all = bits High c.args.packet.now in
    let ended = λ (n : ℕ) (x : _) (found : Finds all 0 (ipv4_header_decoder High) n x) (less : 8 * length
    c.args.packet.now < n). is_error _ _
    (own_fields_short slice_ends c.over.ensures.state refl c.read.ensures found less) in
    elim (eqb_tells (const_at_0 all) 4) [
      | inl is_0 ↦ elim (eqb_tells (const_at_48 all) 0) [
        | inl is_6 ↦ ended 160 _
            (found _ is_0.1 is_6.1) (omega arith)
        | inr differs ↦ elim (cases_lt (length c.args.packet.now) 7) [
          | inl less
              ↦ ended 49 _ (other_6 _ is_0.1 differs.1) (omega arith)
          | inr enough ↦ absurd (differs.1 (at_6 enough))
        ]
      ]
      | inr differs ↦ elim (cases_lt (length c.args.packet.now) 1) [
        | inl less ↦ ended 4 _ (other_0 _ differs.1) (omega
            arith)
        | inr enough ↦ absurd (differs.1 (at_0 enough))
      ]
    ]

pub returns-clause-back : goal.returns-clause-back
returns-clause-back c = λ value more fits is.
    own_prefix_answered slice_ends c.over.ensures.state refl c.read.ensures (ap ((ipv4_header_decoder High).reads 0) (is
    ∙ ap (λ w. w ++ more) (sym (told value) ∙ packs-whole (ipv4_header_packs High value fits) refl)) ∙
    c.ipv4_header_round_trip.ensures.back High value 0 0 more fits)
