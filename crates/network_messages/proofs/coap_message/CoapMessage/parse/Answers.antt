-- Made by `./format` from formats/coap_message.fields: edit that file and make this one anew.
use Rattle.network_messages.specs.CoapMessage.{coap_message_decoder, coap_message_writes, becomes_coap_message}
use Rattle.network_messages.proofs.CoapMessageLemmas.{coap_message_packs}
use Rattle.std.proofs.Common.{◌+◌, length, refl, subst, arith}
use Rattle.bitstream_io.proofs.CallerLemmas.{inl, inr, is_error, slice_ends, packs-is, own_grown_answered}
use Rattle.bitstream_format.proofs.RestLemmas.{rest-back}
use Rattle.bitstream_io.specs.Callers.{High, OwnAnswer, sure_answer}
use Rattle.network_messages.proofs.coap_message.CoapMessage.parse.Goals as goal

pub returns-clause-answer : goal.returns-clause-answer
returns-clause-answer c = elim (own_grown_answered slice_ends c.over.ensures.state refl (rw
    c.rest_of-options_bytes.ensures at c.read.ensures)) [
      | inl found ↦ inl (found)
      | inr lack ↦ inr (
        is_error _ _
            lack.0,
        lack.1,
      )
    ]

pub returns-clause-back : goal.returns-clause-back
returns-clause-back c = λ value fits is.
    elim (own_grown_answered slice_ends c.over.ensures.state refl (rw c.rest_of-options_bytes.ensures at
    c.read.ensures)) [
      | inl found ↦ inl (subst (λ prefix. OwnAnswer becomes_coap_message (λ answer. answer)
          (sure_answer prefix) c.read.result) (rest-back (coap_message_decoder High) High c.args.packet.now
          (coap_message_writes High value) 4 (length value.token + length value.options) _ (packs-is (coap_message_packs
          High value fits) (omega arith)) is (λ more. c.coap_message_round_trip.ensures.back High value 0 0 more fits))
          found)
      | inr lack ↦ inr (is_error _ _ lack.0)
    ]
