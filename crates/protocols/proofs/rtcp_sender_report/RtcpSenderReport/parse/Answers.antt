-- Made by `./format` from formats/rtcp_sender_report.fields: edit that file and make this one anew.
use Rattle.protocols.specs.RtcpSenderReport.{rtcp_sender_report_decoder, rtcp_sender_report_at, const_at_0, const_at_8}
use Rattle.protocols.proofs.RtcpSenderReportLemmas.{rtcp_sender_report_packs, told}
use Rattle.protocols.specs.declared.rtcp_sender_report.RtcpError.TheVariants.{OtherVersion, OtherPacket}
use Rattle.std.proofs.Common.{◌≡◌, ◌≢◌, ◌<◌, ◌*◌, ◌++◌, ◌∙◌, ℕ, List, Ok, Err, length, refl, ap, sym, arith}
use Rattle.std.proofs.lemmas.Bool.{cases_lt}
use Rattle.std.proofs.lemmas.Bool.Decides.{eqb_tells}
use Rattle.bitstream_io.proofs.CallerLemmas.{Finds, inl, inr, is_error, own_answered, own_fields_there, own_fields_short, own_prefix_answered, slice_ends, bit-finds, unsigned-finds, const-finds, const-misses, pure-finds, and_then-finds, packs-whole}
use Rattle.bitstream_io.specs.Callers.{High, bits}
use Rattle.protocols.proofs.rtcp_sender_report.RtcpSenderReport.parse.Goals as goal

found : (packet : List ℕ) → const_at_0 (bits High packet) ≡ 2 → const_at_8 (bits High packet) ≡ 200
    → Finds (bits High packet) 0 (rtcp_sender_report_decoder High) 224 (Ok (Ok (rtcp_sender_report_at (bits High
    packet))))
found packet is_0 is_3 = const-finds _ _ 2 224 _ High 2 _ refl is_0 (bit-finds _ _ 222 _ _ refl (unsigned-finds _ _ 5
    221 _ High 8 _ refl refl (const-finds _ _ 8 216 _ High 200 _ refl is_3 (unsigned-finds _ _ 16 208 _ High 16 _ refl
    refl (unsigned-finds _ _ 32 192 _ High 32 _ refl refl (and_then-finds _ _ 64 96 _ _ _ _ (unsigned-finds _ _ 32 64 _
    High 32 _ refl refl (unsigned-finds _ _ 32 32 _ High 32 _ refl refl (pure-finds _ _ _))) (unsigned-finds _ _ 32 96 _
    High 32 _ refl refl (unsigned-finds _ _ 32 64 _ High 32 _ refl refl (unsigned-finds _ _ 32 32 _ High 32 _ refl refl
    (pure-finds _ _ _))))))))))

other_0 : (packet : List ℕ) → const_at_0 (bits High packet) ≢ 2
    → Finds (bits High packet) 0 (rtcp_sender_report_decoder High) 2 (Ok (Err OtherVersion))
other_0 packet differs = const-misses _ _ 2 2 _ High 2 _ refl differs (pure-finds _ _ _)

other_3 : (packet : List ℕ) → const_at_0 (bits High packet) ≡ 2 → const_at_8 (bits High packet) ≢ 200
    → Finds (bits High packet) 0 (rtcp_sender_report_decoder High) 16 (Ok (Err OtherPacket))
other_3 packet is_0 differs = const-finds _ _ 2 16 _ High 2 _ refl is_0 (bit-finds _ _ 14 _ _ refl (unsigned-finds _ _ 5
    13 _ High 8 _ refl refl (const-misses _ _ 8 8 _ High 200 _ refl differs (pure-finds _ _ _))))

pub returns-clause-answer : goal.returns-clause-answer
returns-clause-answer c = own_answered slice_ends c.over.ensures.state refl c.read.ensures

pub returns-clause-other_version : goal.returns-clause-other_version
returns-clause-other_version c = λ enough differs. own_fields_there slice_ends c.over.ensures.state refl c.read.ensures
    (other_0 _ differs) (omega arith)

pub returns-clause-other_packet : goal.returns-clause-other_packet
returns-clause-other_packet c = λ enough is_0 differs. own_fields_there slice_ends c.over.ensures.state refl
    c.read.ensures (other_3 _ is_0 differs) (omega arith)

pub returns-clause-there : goal.returns-clause-there
returns-clause-there c = λ enough is_0 is_3. own_fields_there slice_ends c.over.ensures.state refl c.read.ensures (found
    _ is_0 is_3) (omega arith)

pub returns-clause-short : goal.returns-clause-short
returns-clause-short c = λ few at_0 at_3.
    let all = bits High c.args.packet.now in
    let ended = λ (n : ℕ) (x : _) (found : Finds all 0 (rtcp_sender_report_decoder High) n x) (less : 8 * length
    c.args.packet.now < n). is_error _ _
    (own_fields_short slice_ends c.over.ensures.state refl c.read.ensures found less) in
    elim (eqb_tells (const_at_0 all) 2) [
      | inl is_0 ↦ elim (eqb_tells (const_at_8 all) 200) [
        | inl is_3 ↦ ended 224 _
            (found _ is_0.1 is_3.1) (omega arith)
        | inr differs ↦ elim (cases_lt (length c.args.packet.now) 2) [
          | inl less
              ↦ ended 16 _ (other_3 _ is_0.1 differs.1) (omega arith)
          | inr enough ↦ absurd (differs.1 (at_3 enough))
        ]
      ]
      | inr differs ↦ elim (cases_lt (length c.args.packet.now) 1) [
        | inl less ↦ ended 2 _ (other_0 _ differs.1) (omega
            arith)
        | inr enough ↦ absurd (differs.1 (at_0 enough))
      ]
    ]

pub returns-clause-back : goal.returns-clause-back
returns-clause-back c = λ value more fits is.
    own_prefix_answered slice_ends c.over.ensures.state refl c.read.ensures (ap ((rtcp_sender_report_decoder High).reads
    0) (is ∙ ap (λ w. w ++ more) (sym (told value) ∙ packs-whole (rtcp_sender_report_packs High value fits) refl)) ∙
    c.rtcp_sender_report_round_trip.ensures.back High value 0 0 more fits)
