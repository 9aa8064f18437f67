-- Made by `./format` from formats/rtcp_receiver_report.fields: edit that file and make this one anew.
use Rattle.protocols.specs.RtcpReceiverReport.{rtcp_receiver_report_decoder, becomes_rtcp_receiver_report}
use Rattle.std.proofs.Common.{◌∙◌, refl, ap, subst}
use Rattle.bitstream_io.proofs.CallerLemmas.{inl, inr, is_error, slice_ends, own_grown_answered}
use Rattle.bitstream_io.specs.Callers.{High, OwnAnswer, sure_answer}
use Rattle.protocols.proofs.rtcp_receiver_report.RtcpReceiverReport.parse.Goals as goal

pub returns-clause-answer : goal.returns-clause-answer
returns-clause-answer c = elim (own_grown_answered slice_ends c.over.ensures.state refl c.read.ensures) [
  | inl found ↦
      inl (found)
  | inr lack ↦ inr (is_error _ _ lack.0, lack.1)
]

pub returns-clause-back : goal.returns-clause-back
returns-clause-back c = λ value more fits is.
    elim (own_grown_answered slice_ends c.over.ensures.state refl c.read.ensures) [
      | inl found ↦ inl (subst (λ prefix.
          OwnAnswer becomes_rtcp_receiver_report (λ answer. answer) (sure_answer prefix) c.read.result) (ap
          ((rtcp_receiver_report_decoder High).reads 0) is ∙ c.rtcp_receiver_report_round_trip.ensures.back High value 0 0
          more fits) found)
      | inr lack ↦ inr (is_error _ _ lack.0)
    ]
