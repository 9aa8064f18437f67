-- Made by `./format --c` from ../network_messages/formats/ipv4_packet.fields: edit that file and make this one anew.
use Rattle.network_messages_c.specs.Ipv4Packet.{ipv4_packet_summed}
use Rattle.network_messages_c.proofs.Ipv4PacketLemmas.{decided, found_is, packed, splits, summed_is}
use Rattle.network_messages_c.proofs.VariedLemmas.{read_decided}
use Rattle.std.proofs.Common.{◌≡◌, ◌∙◌, ◌-◌, length, ap, arith}
use Rattle.bitstream_io.proofs.CallerLemmas.{slice_ends}
use Rattle.bitstream_io.specs.Callers.{High}
use Rattle.network_messages_c.proofs.ipv4_packet.proved_ipv4_packet_parse.Goals as goal

pub returns-clause-answer : goal.returns-clause-answer
returns-clause-answer c =
    let count : c.saturating_sub-taken.result ≡ length c.args.bytes.now - length c.rest.result.now =
    omega (arith, c.saturating_sub-taken.ensures) in
    c.parsed.ensures ∙ ap (ipv4_packet_summed _ _) c.read-answer.ensures.told
    ∙ summed_is c.read-answer.ensures.found _ _ _ (λ it is. c.read-answer.ensures.options_items it is)
    ∙ decided _ c.read-answer.ensures.reads.plain _ _ _ (read_decided slice_ends c.over-reader.ensures.state c.rest.ensures count c.read-answer.ensures.reads.called)
    c.read-answer.ensures.reads.answer

pub returns-clause-tested : goal.returns-clause-tested
returns-clause-tested c = (splits High).same 0 _

pub returns-clause-options_items : goal.returns-clause-options_items
returns-clause-options_items c = λ n it is.
    let count : c.saturating_sub-taken.result ≡ length c.args.bytes.now - length c.rest.result.now =
    omega (arith, c.saturating_sub-taken.ensures) in
    c.read-answer.ensures.options_items it
    (found_is _ c.read-answer.ensures.reads.plain _ _ n it (read_decided slice_ends c.over-reader.ensures.state c.rest.ensures count c.read-answer.ensures.reads.called) c.read-answer.ensures.reads.answer is)

pub returns-clause-round_trip : goal.returns-clause-round_trip
returns-clause-round_trip c = λ value fits is.
    let count : c.saturating_sub-taken.result ≡ length c.args.bytes.now - length c.rest.result.now =
    omega (arith, c.saturating_sub-taken.ensures) in
    c.parsed.ensures ∙ ap (ipv4_packet_summed _ _) c.read-answer.ensures.told
    ∙ summed_is c.read-answer.ensures.found _ _ _ (λ it is. c.read-answer.ensures.options_items it is)
    ∙ decided _ c.read-answer.ensures.reads.plain _ _ _ (read_decided slice_ends c.over-reader.ensures.state c.rest.ensures count c.read-answer.ensures.reads.called)
    c.read-answer.ensures.reads.answer
    ∙ packed value c.args.bytes.now (length c.args.options_items.now) fits is
