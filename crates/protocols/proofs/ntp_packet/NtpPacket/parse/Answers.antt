-- Made by `./format` from formats/ntp_packet.fields: edit that file and make this one anew.
use Rattle.protocols.specs.NtpPacket.{ntp_packet_decoder, ntp_packet_at, leap_of, mode_of}
use Rattle.protocols.proofs.NtpPacketLemmas.{ntp_packet_packs, told}
use Rattle.std.proofs.Common.{◌++◌, ◌∙◌, ℕ, List, Ok, refl, ap, sym, arith}
use Rattle.bitstream_io.proofs.CallerLemmas.{Finds, fields_there, fields_short, prefix_answered, slice_ends, signed-finds, unsigned-finds, bytes-finds, pure-finds, and_then-finds, made-finds, packs-whole}
use Rattle.bitstream_io.proofs.SliceLemmas.{new_answer}
use Rattle.bitstream_io.specs.Callers.{High, bits}
use Rattle.protocols.proofs.ntp_packet.NtpPacket.parse.Goals as goal

found : (packet : List ℕ)
    → Finds (bits High packet) 0 (ntp_packet_decoder High) 384 (Ok (ntp_packet_at (bits High packet)))
found packet = made-finds _ _ 384 _ 2 High 8 leap_of _ refl refl (unsigned-finds _ _ 3 382 _ High 8 _ refl refl
    (made-finds _ _ 379 _ 3 High 8 mode_of _ refl refl (unsigned-finds _ _ 8 376 _ High 8 _ refl refl (signed-finds _ _
    8 368 _ High 8 _ refl refl refl (signed-finds _ _ 8 360 _ High 8 _ refl refl refl (unsigned-finds _ _ 32 352 _ High
    32 _ refl refl (unsigned-finds _ _ 32 320 _ High 32 _ refl refl (bytes-finds _ _ 288 _ 4 High _ refl (and_then-finds
    _ _ 64 192 _ _ _ _ (unsigned-finds _ _ 32 64 _ High 32 _ refl refl (unsigned-finds _ _ 32 32 _ High 32 _ refl refl
    (pure-finds _ _ _))) (and_then-finds _ _ 64 128 _ _ _ _ (unsigned-finds _ _ 32 64 _ High 32 _ refl refl
    (unsigned-finds _ _ 32 32 _ High 32 _ refl refl (pure-finds _ _ _))) (and_then-finds _ _ 64 64 _ _ _ _
    (unsigned-finds _ _ 32 64 _ High 32 _ refl refl (unsigned-finds _ _ 32 32 _ High 32 _ refl refl (pure-finds _ _ _)))
    (and_then-finds _ _ 64 0 _ _ _ _ (unsigned-finds _ _ 32 64 _ High 32 _ refl refl (unsigned-finds _ _ 32 32 _ High 32
    _ refl refl (pure-finds _ _ _))) (pure-finds _ _ _)))))))))))))

pub returns-clause-answer : goal.returns-clause-answer
returns-clause-answer c = new_answer slice_ends _ _ c.over.ensures.state c.read.ensures

pub returns-clause-there : goal.returns-clause-there
returns-clause-there c = λ enough. fields_there slice_ends c.over.ensures.state refl c.read.ensures (found _) (omega
    arith)

pub returns-clause-short : goal.returns-clause-short
returns-clause-short c = λ few. fields_short slice_ends c.over.ensures.state refl c.read.ensures (found _) (omega arith)

pub returns-clause-back : goal.returns-clause-back
returns-clause-back c = λ value more fits is.
    prefix_answered slice_ends c.over.ensures.state refl c.read.ensures (ap ((ntp_packet_decoder High).reads 0) (is ∙ ap
    (λ w. w ++ more) (sym (told value) ∙ packs-whole (ntp_packet_packs High value fits) refl)) ∙
    c.ntp_packet_round_trip.ensures.back High value 0 0 more fits)
