-- Made by `./format` from formats/ipv6_header.fields: edit that file and make this one anew.
use Rattle.protocols.specs.Ipv6Header.{ipv6_header_decoder, ipv6_header_at, const_at_0, ecn_of, following_of}
use Rattle.protocols.proofs.Ipv6HeaderLemmas.{ipv6_header_packs, told}
use Rattle.protocols.specs.declared.ipv6_header.Ipv6Error.TheVariants.{OtherVersion}
use Rattle.std.proofs.Common.{◌≡◌, ◌≢◌, ◌<◌, ◌*◌, ◌++◌, ◌∙◌, ℕ, List, Ok, Err, length, refl, ap, sym, arith}
use Rattle.std.proofs.lemmas.Bool.{cases_lt}
use Rattle.std.proofs.lemmas.Bool.Decides.{eqb_tells}
use Rattle.bitstream_io.proofs.CallerLemmas.{Finds, inl, inr, is_error, own_answered, own_fields_there, own_fields_short, own_prefix_answered, slice_ends, unsigned-finds, bytes-finds, const-finds, const-misses, pure-finds, made-finds, packs-whole}
use Rattle.bitstream_io.specs.Callers.{High, bits}
use Rattle.protocols.proofs.ipv6_header.Ipv6Header.parse.Goals as goal

found : (packet : List ℕ) → const_at_0 (bits High packet) ≡ 6
    → Finds (bits High packet) 0 (ipv6_header_decoder High) 320 (Ok (Ok (ipv6_header_at (bits High packet))))
found packet is_0 = const-finds _ _ 4 320 _ High 6 _ refl is_0 (unsigned-finds _ _ 6 316 _ High 8 _ refl refl
    (made-finds _ _ 310 _ 2 High 8 ecn_of _ refl refl (unsigned-finds _ _ 20 308 _ High 32 _ refl refl (unsigned-finds _
    _ 16 288 _ High 16 _ refl refl (made-finds _ _ 272 _ 8 High 8 following_of _ refl refl (unsigned-finds _ _ 8 264 _
    High 8 _ refl refl (bytes-finds _ _ 256 _ 16 High _ refl (bytes-finds _ _ 128 _ 16 High _ refl (pure-finds _ _
    _)))))))))

other_0 : (packet : List ℕ) → const_at_0 (bits High packet) ≢ 6
    → Finds (bits High packet) 0 (ipv6_header_decoder High) 4 (Ok (Err OtherVersion))
other_0 packet differs = const-misses _ _ 4 4 _ High 6 _ refl differs (pure-finds _ _ _)

pub returns-clause-answer : goal.returns-clause-answer
returns-clause-answer c = own_answered slice_ends c.over.ensures.state refl c.read.ensures

pub returns-clause-other_version : goal.returns-clause-other_version
returns-clause-other_version c = λ enough differs. own_fields_there slice_ends c.over.ensures.state refl c.read.ensures
    (other_0 _ differs) (omega arith)

pub returns-clause-there : goal.returns-clause-there
returns-clause-there c = λ enough is_0. own_fields_there slice_ends c.over.ensures.state refl c.read.ensures (found _
    is_0) (omega arith)

pub returns-clause-short : goal.returns-clause-short
returns-clause-short c = λ few at_0.
    let all = bits High c.args.packet.now in
    let ended = λ (n : ℕ) (x : _) (found : Finds all 0 (ipv6_header_decoder High) n x) (less : 8 * length
    c.args.packet.now < n). is_error _ _
    (own_fields_short slice_ends c.over.ensures.state refl c.read.ensures found less) in
    elim (eqb_tells (const_at_0 all) 6) [
      | inl is_0 ↦ ended 320 _ (found _ is_0.1) (omega arith)
      | inr differs ↦ elim
          (cases_lt (length c.args.packet.now) 1) [
            | inl less ↦ ended 4 _ (other_0 _ differs.1) (omega arith)
            | inr
                enough ↦ absurd (differs.1 (at_0 enough))
          ]
    ]

pub returns-clause-back : goal.returns-clause-back
returns-clause-back c = λ value more fits is.
    own_prefix_answered slice_ends c.over.ensures.state refl c.read.ensures (ap ((ipv6_header_decoder High).reads 0) (is
    ∙ ap (λ w. w ++ more) (sym (told value) ∙ packs-whole (ipv6_header_packs High value fits) refl)) ∙
    c.ipv6_header_round_trip.ensures.back High value 0 0 more fits)
