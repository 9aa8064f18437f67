-- Made by `./format` from formats/arp_packet.fields: edit that file and make this one anew.
use Rattle.protocols.specs.ArpPacket.{arp_packet_decoder, arp_packet_at, const_at_0, const_at_16, const_at_32, const_at_40, operation_of}
use Rattle.protocols.proofs.ArpPacketLemmas.{arp_packet_packs, told}
use Rattle.protocols.specs.declared.arp_packet.ArpError.TheVariants.{OtherHardware, OtherProtocol, OtherHardwareLength, OtherProtocolLength}
use Rattle.std.proofs.Common.{◌≡◌, ◌≢◌, ◌<◌, ◌*◌, ◌++◌, ◌∙◌, ℕ, List, Ok, Err, length, refl, ap, sym, arith}
use Rattle.std.proofs.lemmas.Bool.{cases_lt}
use Rattle.std.proofs.lemmas.Bool.Decides.{eqb_tells}
use Rattle.bitstream_io.proofs.CallerLemmas.{Finds, inl, inr, is_error, own_answered, own_fields_there, own_fields_short, own_prefix_answered, slice_ends, bytes-finds, const-finds, const-misses, pure-finds, made-finds, packs-whole}
use Rattle.bitstream_io.specs.Callers.{High, bits}
use Rattle.protocols.proofs.arp_packet.ArpPacket.parse.Goals as goal

found : (packet : List ℕ) → const_at_0 (bits High packet) ≡ 1 → const_at_16 (bits High packet) ≡ 2048 → const_at_32
    (bits High packet) ≡ 6 → const_at_40 (bits High packet) ≡ 4
    → Finds (bits High packet) 0 (arp_packet_decoder High) 224 (Ok (Ok (arp_packet_at (bits High packet))))
found packet is_0 is_1 is_2 is_3 = const-finds _ _ 16 224 _ High 1 _ refl is_0 (const-finds _ _ 16 208 _ High 2048 _
    refl is_1 (const-finds _ _ 8 192 _ High 6 _ refl is_2 (const-finds _ _ 8 184 _ High 4 _ refl is_3 (made-finds _ _
    176 _ 16 High 16 operation_of _ refl refl (bytes-finds _ _ 160 _ 6 High _ refl (bytes-finds _ _ 112 _ 4 High _ refl
    (bytes-finds _ _ 80 _ 6 High _ refl (bytes-finds _ _ 32 _ 4 High _ refl (pure-finds _ _ _)))))))))

other_0 : (packet : List ℕ) → const_at_0 (bits High packet) ≢ 1
    → Finds (bits High packet) 0 (arp_packet_decoder High) 16 (Ok (Err OtherHardware))
other_0 packet differs = const-misses _ _ 16 16 _ High 1 _ refl differs (pure-finds _ _ _)

other_1 : (packet : List ℕ) → const_at_0 (bits High packet) ≡ 1 → const_at_16 (bits High packet) ≢ 2048
    → Finds (bits High packet) 0 (arp_packet_decoder High) 32 (Ok (Err OtherProtocol))
other_1 packet is_0 differs = const-finds _ _ 16 32 _ High 1 _ refl is_0 (const-misses _ _ 16 16 _ High 2048 _ refl
    differs (pure-finds _ _ _))

other_2 : (packet : List ℕ) → const_at_0 (bits High packet) ≡ 1 → const_at_16 (bits High packet) ≡ 2048 → const_at_32
    (bits High packet) ≢ 6
    → Finds (bits High packet) 0 (arp_packet_decoder High) 40 (Ok (Err OtherHardwareLength))
other_2 packet is_0 is_1 differs = const-finds _ _ 16 40 _ High 1 _ refl is_0 (const-finds _ _ 16 24 _ High 2048 _ refl
    is_1 (const-misses _ _ 8 8 _ High 6 _ refl differs (pure-finds _ _ _)))

other_3 : (packet : List ℕ) → const_at_0 (bits High packet) ≡ 1 → const_at_16 (bits High packet) ≡ 2048 → const_at_32
    (bits High packet) ≡ 6 → const_at_40 (bits High packet) ≢ 4
    → Finds (bits High packet) 0 (arp_packet_decoder High) 48 (Ok (Err OtherProtocolLength))
other_3 packet is_0 is_1 is_2 differs = const-finds _ _ 16 48 _ High 1 _ refl is_0 (const-finds _ _ 16 32 _ High 2048 _
    refl is_1 (const-finds _ _ 8 16 _ High 6 _ refl is_2 (const-misses _ _ 8 8 _ High 4 _ refl differs (pure-finds _ _
    _))))

pub returns-clause-answer : goal.returns-clause-answer
returns-clause-answer c = own_answered slice_ends c.over.ensures.state refl c.read.ensures

pub returns-clause-other_hardware : goal.returns-clause-other_hardware
returns-clause-other_hardware c = λ enough differs. own_fields_there slice_ends c.over.ensures.state refl c.read.ensures
    (other_0 _ differs) (omega arith)

pub returns-clause-other_protocol : goal.returns-clause-other_protocol
returns-clause-other_protocol c = λ enough is_0 differs. own_fields_there slice_ends c.over.ensures.state refl
    c.read.ensures (other_1 _ is_0 differs) (omega arith)

pub returns-clause-other_hardware_length : goal.returns-clause-other_hardware_length
returns-clause-other_hardware_length c = λ enough is_0 is_1 differs. own_fields_there slice_ends c.over.ensures.state
    refl c.read.ensures (other_2 _ is_0 is_1 differs) (omega arith)

pub returns-clause-other_protocol_length : goal.returns-clause-other_protocol_length
returns-clause-other_protocol_length c = λ enough is_0 is_1 is_2 differs. own_fields_there slice_ends
    c.over.ensures.state refl c.read.ensures (other_3 _ is_0 is_1 is_2 differs) (omega arith)

pub returns-clause-there : goal.returns-clause-there
returns-clause-there c = λ enough is_0 is_1 is_2 is_3. own_fields_there slice_ends c.over.ensures.state refl
    c.read.ensures (found _ is_0 is_1 is_2 is_3) (omega arith)

pub returns-clause-short : goal.returns-clause-short
returns-clause-short c = λ few at_0 at_1 at_2 at_3.
    let all = bits High c.args.packet.now in
    let ended = λ (n : ℕ) (x : _) (found : Finds all 0 (arp_packet_decoder High) n x) (less : 8 * length
    c.args.packet.now < n). is_error _ _
    (own_fields_short slice_ends c.over.ensures.state refl c.read.ensures found less) in
    elim (eqb_tells (const_at_0 all) 1) [
      | inl is_0 ↦ elim (eqb_tells (const_at_16 all) 2048) [
        | inl is_1 ↦ elim
            (eqb_tells (const_at_32 all) 6) [
              | inl is_2 ↦ elim (eqb_tells (const_at_40 all) 4) [
                | inl is_3 ↦ ended 224 _
                    (found _ is_0.1 is_1.1 is_2.1 is_3.1) (omega arith)
                | inr differs ↦ elim (cases_lt (length c.args.packet.now) 6) [
                  | inl less ↦ ended 48 _ (other_3 _ is_0.1 is_1.1 is_2.1 differs.1) (omega arith)
                  | inr enough ↦ absurd
                      (differs.1 (at_3 enough))
                ]
              ]
              | inr differs ↦ elim (cases_lt (length c.args.packet.now) 5) [
                | inl less ↦ ended
                    40 _ (other_2 _ is_0.1 is_1.1 differs.1) (omega arith)
                | inr enough ↦ absurd (differs.1 (at_2 enough))
              ]
            ]
        | inr
            differs ↦ elim (cases_lt (length c.args.packet.now) 4) [
              | inl less ↦ ended 32 _ (other_1 _ is_0.1 differs.1)
                  (omega arith)
              | inr enough ↦ absurd (differs.1 (at_1 enough))
            ]
      ]
      | inr differs ↦ elim (cases_lt (length
          c.args.packet.now) 2) [
            | inl less ↦ ended 16 _ (other_0 _ differs.1) (omega arith)
            | inr enough ↦ absurd
                (differs.1 (at_0 enough))
          ]
    ]

pub returns-clause-back : goal.returns-clause-back
returns-clause-back c = λ value more fits is.
    own_prefix_answered slice_ends c.over.ensures.state refl c.read.ensures (ap ((arp_packet_decoder High).reads 0) (is
    ∙ ap (λ w. w ++ more) (sym (told value) ∙ packs-whole (arp_packet_packs High value fits) refl)) ∙
    c.arp_packet_round_trip.ensures.back High value 0 0 more fits)
