-- Made by `./format --c` from ../network_messages/formats/icmp_message.fields: edit that file and make this one anew.
use Rattle.network_messages_c.specs.IcmpMessage.{icmp_message_of}
use Rattle.network_messages.specs.IcmpMessage.{icmp_message_writes}
use Rattle.network_messages_c.proofs.IcmpMessageLemmas.{icmp_message_most}
use Rattle.network_messages.proofs.IcmpMessageLemmas.{icmp_message_packs}
use Rattle.network_messages_c.proofs.VariedLemmas.{counted_past}
use Rattle.std.proofs.Common.{◌∙◌, refl, arith}
use Rattle.bitstream_io.proofs.SequenceLemmas.{counted}
use Rattle.bitstream_io.specs.Callers.{High}
use Rattle.network_messages_c.proofs.icmp_message.size.Goals as goal

pub returns : goal.returns
returns c =
    let all = icmp_message_packs High (icmp_message_of c.args.fields.now) c.requires.0 in
    c.into_written.ensures ∙ counted _ (icmp_message_writes High (icmp_message_of c.args.fields.now)) _ _ refl c.new-counter.ensures c.in-Ok.ensures ∙ all.size 0

pub unreachable-requires : goal.unreachable-requires
unreachable-requires c =
    let all = icmp_message_packs High (icmp_message_of c.args.fields.now) c.requires.0 in
    let size = all.size 0 in
    let most = icmp_message_most (icmp_message_of c.args.fields.now) c.requires in
    let more = counted_past _ 18446744073709551615 refl (λ x may. may) (icmp_message_writes High (icmp_message_of c.args.fields.now)) _ _ _ c.new-counter.ensures
    refl (all.accepted 0) c.in-Err.ensures in
    omega (arith, more, size, most)
