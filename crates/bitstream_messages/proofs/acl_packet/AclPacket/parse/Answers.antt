-- Made by `./format` from formats/acl_packet.fields: edit that file and make this one anew.
use Rattle.bitstream_messages.specs.AclPacket.{acl_packet_decoder, becomes_acl_packet}
use Rattle.std.proofs.Common.{◌∙◌, refl, ap, subst}
use Rattle.bitstream_io.proofs.CallerLemmas.{inl, inr, is_error, slice_ends, own_grown_answered}
use Rattle.bitstream_io.specs.Callers.{Low, OwnAnswer, sure_answer}
use Rattle.bitstream_messages.proofs.acl_packet.AclPacket.parse.Goals as goal

pub returns-clause-answer : goal.returns-clause-answer
returns-clause-answer c = elim (own_grown_answered slice_ends c.over.ensures.state refl c.read.ensures) [
  | inl found ↦
      inl (found)
  | inr lack ↦ inr (is_error _ _ lack.0, lack.1)
]

pub returns-clause-back : goal.returns-clause-back
returns-clause-back c = λ value more fits is.
    elim (own_grown_answered slice_ends c.over.ensures.state refl c.read.ensures) [
      | inl found ↦ inl (subst (λ prefix.
          OwnAnswer becomes_acl_packet (λ answer. answer) (sure_answer prefix) c.read.result) (ap ((acl_packet_decoder
          Low).reads 0) is ∙ c.acl_packet_round_trip.ensures.back Low value 0 0 more fits) found)
      | inr lack ↦ inr
          (is_error _ _ lack.0)
    ]
