-- Made by `./format --c` from ../network_messages/formats/icmp_message.fields: edit that file and make this one anew.
use Rattle.network_messages_c.specs.IcmpMessage.{icmp_message_summed}
use Rattle.network_messages_c.proofs.IcmpMessageLemmas.{decided, found_is, packed, splits, summed_is}
use Rattle.network_messages_c.proofs.VariedLemmas.{read_decided}
use Rattle.std.proofs.Common.{◌≡◌, ◌∙◌, ◌-◌, length, ap, arith}
use Rattle.bitstream_io.proofs.CallerLemmas.{slice_ends}
use Rattle.bitstream_io.specs.Callers.{High}
use Rattle.network_messages_c.proofs.icmp_message.proved_icmp_message_parse.Goals as goal

pub returns-clause-answer : goal.returns-clause-answer
returns-clause-answer c =
    let count : c.saturating_sub-taken.result ≡ length c.args.bytes.now - length c.rest.result.now =
    omega (arith, c.saturating_sub-taken.ensures) in
    c.parsed.ensures ∙ ap (icmp_message_summed _ _) (rw c.rest_of-data_bytes.ensures at c.read-answer.ensures).told
    ∙ summed_is (rw c.rest_of-data_bytes.ensures at c.read-answer.ensures).found _ _ _ (λ it is. (rw c.rest_of-data_bytes.ensures at c.read-answer.ensures).data_items it is)
    ∙ decided _ (rw c.rest_of-data_bytes.ensures at c.read-answer.ensures).reads.plain _ _ _ (read_decided slice_ends c.over-reader.ensures.state c.rest.ensures count (rw c.rest_of-data_bytes.ensures at c.read-answer.ensures).reads.called)
    (rw c.rest_of-data_bytes.ensures at c.read-answer.ensures).reads.answer

pub returns-clause-tested : goal.returns-clause-tested
returns-clause-tested c = (splits High (length c.args.bytes.now - 8)).same 0 _

pub returns-clause-data_items : goal.returns-clause-data_items
returns-clause-data_items c = λ n it is.
    let count : c.saturating_sub-taken.result ≡ length c.args.bytes.now - length c.rest.result.now =
    omega (arith, c.saturating_sub-taken.ensures) in
    (rw c.rest_of-data_bytes.ensures at c.read-answer.ensures).data_items it
    (found_is _ (rw c.rest_of-data_bytes.ensures at c.read-answer.ensures).reads.plain _ _ n it (read_decided slice_ends c.over-reader.ensures.state c.rest.ensures count (rw c.rest_of-data_bytes.ensures at c.read-answer.ensures).reads.called) (rw c.rest_of-data_bytes.ensures at c.read-answer.ensures).reads.answer is)

pub returns-clause-round_trip : goal.returns-clause-round_trip
returns-clause-round_trip c = λ value fits is.
    let count : c.saturating_sub-taken.result ≡ length c.args.bytes.now - length c.rest.result.now =
    omega (arith, c.saturating_sub-taken.ensures) in
    c.parsed.ensures ∙ ap (icmp_message_summed _ _) (rw c.rest_of-data_bytes.ensures at c.read-answer.ensures).told
    ∙ summed_is (rw c.rest_of-data_bytes.ensures at c.read-answer.ensures).found _ _ _ (λ it is. (rw c.rest_of-data_bytes.ensures at c.read-answer.ensures).data_items it is)
    ∙ decided _ (rw c.rest_of-data_bytes.ensures at c.read-answer.ensures).reads.plain _ _ _ (read_decided slice_ends c.over-reader.ensures.state c.rest.ensures count (rw c.rest_of-data_bytes.ensures at c.read-answer.ensures).reads.called)
    (rw c.rest_of-data_bytes.ensures at c.read-answer.ensures).reads.answer
    ∙ packed value c.args.bytes.now (length c.args.data_items.now) fits is
