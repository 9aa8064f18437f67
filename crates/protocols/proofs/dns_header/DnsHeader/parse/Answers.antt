-- Made by `./format` from formats/dns_header.fields: edit that file and make this one anew.
use Rattle.protocols.specs.DnsHeader.{dns_header_decoder, dns_header_at, const_at_25, code_of}
use Rattle.protocols.proofs.DnsHeaderLemmas.{dns_header_packs, told}
use Rattle.protocols.specs.declared.dns_header.DnsHeaderError.TheVariants.{ReservedSet}
use Rattle.std.proofs.Common.{◌≡◌, ◌≢◌, ◌<◌, ◌*◌, ◌++◌, ◌∙◌, ℕ, List, Ok, Err, length, refl, ap, sym, arith}
use Rattle.std.proofs.lemmas.Bool.{cases_lt}
use Rattle.std.proofs.lemmas.Bool.Decides.{eqb_tells}
use Rattle.bitstream_io.proofs.CallerLemmas.{Finds, inl, inr, is_error, own_answered, own_fields_there, own_fields_short, own_prefix_answered, slice_ends, bit-finds, unsigned-finds, const-finds, const-misses, pure-finds, made-finds, packs-whole}
use Rattle.bitstream_io.specs.Callers.{High, bits}
use Rattle.protocols.proofs.dns_header.DnsHeader.parse.Goals as goal

found : (packet : List ℕ) → const_at_25 (bits High packet) ≡ 0
    → Finds (bits High packet) 0 (dns_header_decoder High) 96 (Ok (Ok (dns_header_at (bits High packet))))
found packet is_7 = unsigned-finds _ _ 16 96 _ High 16 _ refl refl (bit-finds _ _ 80 _ _ refl (unsigned-finds _ _ 4 79 _
    High 8 _ refl refl (bit-finds _ _ 75 _ _ refl (bit-finds _ _ 74 _ _ refl (bit-finds _ _ 73 _ _ refl (bit-finds _ _
    72 _ _ refl (const-finds _ _ 1 71 _ High 0 _ refl is_7 (bit-finds _ _ 70 _ _ refl (bit-finds _ _ 69 _ _ refl
    (made-finds _ _ 68 _ 4 High 8 code_of _ refl refl (unsigned-finds _ _ 16 64 _ High 16 _ refl refl (unsigned-finds _
    _ 16 48 _ High 16 _ refl refl (unsigned-finds _ _ 16 32 _ High 16 _ refl refl (unsigned-finds _ _ 16 16 _ High 16 _
    refl refl (pure-finds _ _ _)))))))))))))))

other_7 : (packet : List ℕ) → const_at_25 (bits High packet) ≢ 0
    → Finds (bits High packet) 0 (dns_header_decoder High) 26 (Ok (Err ReservedSet))
other_7 packet differs = unsigned-finds _ _ 16 26 _ High 16 _ refl refl (bit-finds _ _ 10 _ _ refl (unsigned-finds _ _ 4
    9 _ High 8 _ refl refl (bit-finds _ _ 5 _ _ refl (bit-finds _ _ 4 _ _ refl (bit-finds _ _ 3 _ _ refl (bit-finds _ _
    2 _ _ refl (const-misses _ _ 1 1 _ High 0 _ refl differs (pure-finds _ _ _))))))))

pub returns-clause-answer : goal.returns-clause-answer
returns-clause-answer c = own_answered slice_ends c.over.ensures.state refl c.read.ensures

pub returns-clause-reserved_set : goal.returns-clause-reserved_set
returns-clause-reserved_set c = λ enough differs. own_fields_there slice_ends c.over.ensures.state refl c.read.ensures
    (other_7 _ differs) (omega arith)

pub returns-clause-there : goal.returns-clause-there
returns-clause-there c = λ enough is_7. own_fields_there slice_ends c.over.ensures.state refl c.read.ensures (found _
    is_7) (omega arith)

pub returns-clause-short : goal.returns-clause-short
returns-clause-short c = λ few at_7.
    let all = bits High c.args.packet.now in
    let ended = λ (n : ℕ) (x : _) (found : Finds all 0 (dns_header_decoder High) n x) (less : 8 * length
    c.args.packet.now < n). is_error _ _
    (own_fields_short slice_ends c.over.ensures.state refl c.read.ensures found less) in
    elim (eqb_tells (const_at_25 all) 0) [
      | inl is_7 ↦ ended 96 _ (found _ is_7.1) (omega arith)
      | inr differs ↦ elim
          (cases_lt (length c.args.packet.now) 4) [
            | inl less ↦ ended 26 _ (other_7 _ differs.1) (omega arith)
            | inr
                enough ↦ absurd (differs.1 (at_7 enough))
          ]
    ]

pub returns-clause-back : goal.returns-clause-back
returns-clause-back c = λ value more fits is.
    own_prefix_answered slice_ends c.over.ensures.state refl c.read.ensures (ap ((dns_header_decoder High).reads 0) (is
    ∙ ap (λ w. w ++ more) (sym (told value) ∙ packs-whole (dns_header_packs High value fits) refl)) ∙
    c.dns_header_round_trip.ensures.back High value 0 0 more fits)
