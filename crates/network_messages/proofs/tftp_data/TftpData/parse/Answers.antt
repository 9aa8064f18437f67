-- Made by `./format` from formats/tftp_data.fields: edit that file and make this one anew.
use Rattle.network_messages.specs.TftpData.{tftp_data_decoder, tftp_data_writes, becomes_tftp_data}
use Rattle.network_messages.proofs.TftpDataLemmas.{tftp_data_packs}
use Rattle.std.proofs.Common.{length, refl, subst, arith}
use Rattle.bitstream_io.proofs.CallerLemmas.{inl, inr, is_error, slice_ends, packs-is, own_grown_answered}
use Rattle.bitstream_format.proofs.RestLemmas.{rest-back}
use Rattle.bitstream_io.specs.Callers.{High, OwnAnswer, sure_answer}
use Rattle.network_messages.proofs.tftp_data.TftpData.parse.Goals as goal

pub returns-clause-answer : goal.returns-clause-answer
returns-clause-answer c = elim (own_grown_answered slice_ends c.over.ensures.state refl (rw c.rest_of-data_bytes.ensures
    at c.read.ensures)) [ inl found ↦ inl (found) | inr lack ↦ inr (is_error _ _ lack.0, lack.1) ]

pub returns-clause-back : goal.returns-clause-back
returns-clause-back c = λ value fits is.
    elim (own_grown_answered slice_ends c.over.ensures.state refl (rw c.rest_of-data_bytes.ensures at c.read.ensures)) [
      | inl found ↦ inl (subst (λ prefix. OwnAnswer becomes_tftp_data (λ answer. answer) (sure_answer prefix)
          c.read.result) (rest-back (tftp_data_decoder High) High c.args.packet.now (tftp_data_writes High value) 4
          (length value.data) _ (packs-is (tftp_data_packs High value fits) (omega arith)) is (λ more.
          c.tftp_data_round_trip.ensures.back High value 0 0 more fits)) found)
      | inr lack ↦ inr (is_error _ _ lack.0)
    ]
