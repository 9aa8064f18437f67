-- Made by `./format` from formats/client_hello.fields: edit that file and make this one anew.
use Rattle.bitstream_callers.specs.ClientHello.{client_hello_decoder, becomes_client_hello}
use Rattle.std.proofs.Common.{◌∙◌, refl, ap, subst}
use Rattle.bitstream_io.proofs.CallerLemmas.{inl, inr, is_error, slice_ends, own_grown_answered}
use Rattle.bitstream_io.specs.Callers.{High, OwnAnswer, sure_answer}
use Rattle.bitstream_callers.proofs.client_hello.ClientHello.parse.Goals as goal

pub returns-clause-answer : goal.returns-clause-answer
returns-clause-answer c = elim (own_grown_answered slice_ends c.over.ensures.state refl c.read.ensures) [
  | inl found ↦
      inl (found)
  | inr lack ↦ inr (is_error _ _ lack.0, lack.1)
]

pub returns-clause-back : goal.returns-clause-back
returns-clause-back c = λ value more fits is.
    elim (own_grown_answered slice_ends c.over.ensures.state refl c.read.ensures) [
      | inl found ↦ inl (subst (λ prefix.
          OwnAnswer becomes_client_hello (λ answer. answer) (sure_answer prefix) c.read.result) (ap ((client_hello_decoder
          High).reads 0) is ∙ c.client_hello_round_trip.ensures.back High value 0 0 more fits) found)
      | inr lack ↦ inr
          (is_error _ _ lack.0)
    ]
