-- Made by `./format --c` from ../network_messages/formats/udp_datagram.fields: edit that file and make this one anew.
use Rattle.network_messages_c.specs.UdpDatagram.{udp_datagram_answer, udp_datagram_bytes, udp_datagram_unsummed_decoder, udp_datagram_within, udp_datagram_summed}
use Rattle.network_messages_c.proofs.UdpDatagramLemmas.{decided, found_is, packed, splits, summed_is}
use Rattle.network_messages_c.proofs.VariedLemmas.{read_decided}
use Rattle.std.proofs.Common.{◌≡◌, ◌∙◌, ◌-◌, Ok, length, ap, subst, arith}
use Rattle.bitstream_io.proofs.CallerLemmas.{slice_ends}
use Rattle.bitstream_io.specs.Callers.{High, bits}
use Rattle.network_messages_c.proofs.udp_datagram.parse_given.Goals as goal

pub returns-clause-answer : goal.returns-clause-answer
returns-clause-answer c =
    let count : c.saturating_sub-taken.result ≡ length c.args.bytes.now - length c.rest.result.now =
    omega (arith, c.saturating_sub-taken.ensures) in
    c.parsed.ensures ∙ ap (udp_datagram_summed _ _) c.read-answer.ensures.told
    ∙ summed_is c.read-answer.ensures.found _ _ _ (λ it is. c.read-answer.ensures.data_items it is)
    ∙ decided _ c.read-answer.ensures.reads.plain _ _ _ (read_decided slice_ends c.over-reader.ensures.state c.rest.ensures count c.read-answer.ensures.reads.called)
    c.read-answer.ensures.reads.answer

pub returns-clause-tested : goal.returns-clause-tested
returns-clause-tested c = (splits High c.args.pseudo).same 0 _

pub returns-clause-data_items : goal.returns-clause-data_items
returns-clause-data_items c = λ n it is.
    let count : c.saturating_sub-taken.result ≡ length c.args.bytes.now - length c.rest.result.now =
    omega (arith, c.saturating_sub-taken.ensures) in
    c.read-answer.ensures.data_items it
    (found_is _ c.read-answer.ensures.reads.plain _ _ n it (read_decided slice_ends c.over-reader.ensures.state c.rest.ensures count c.read-answer.ensures.reads.called) c.read-answer.ensures.reads.answer is)

pub returns-clause-round_trip : goal.returns-clause-round_trip
returns-clause-round_trip c = λ value fits same is.
    let count : c.saturating_sub-taken.result ≡ length c.args.bytes.now - length c.rest.result.now =
    omega (arith, c.saturating_sub-taken.ensures) in
    c.parsed.ensures ∙ ap (udp_datagram_summed _ _) c.read-answer.ensures.told
    ∙ summed_is c.read-answer.ensures.found _ _ _ (λ it is. c.read-answer.ensures.data_items it is)
    ∙ decided _ c.read-answer.ensures.reads.plain _ _ _ (read_decided slice_ends c.over-reader.ensures.state c.rest.ensures count c.read-answer.ensures.reads.called)
    c.read-answer.ensures.reads.answer
    ∙ subst (λ part. udp_datagram_answer (length c.args.data_items.now) ((udp_datagram_unsummed_decoder High part).reads 0 (bits High c.args.bytes.now))
    ≡ udp_datagram_within (udp_datagram_bytes value) (length c.args.data_items.now) value (Ok value)) same (packed value c.args.bytes.now (length c.args.data_items.now) fits is)
