-- Made by `./format --c` from ../network_messages/formats/icmp_message.fields: edit that file and make this one anew.
use Rattle.network_messages_c.specs.IcmpMessage.{icmp_message_held, icmp_message_room, icmp_message_packable, icmp_message_of}
use Rattle.network_messages_c.specs.Shared.{PacksInto}
use Rattle.std.proofs.Common.{◌∙◌, sym, ap, subst}
use Rattle.std.specs.Prelude.{option_map, IsSomeAnd}
use Rattle.bitstream_io.specs.Callers.{High}
use Rattle.network_messages_c.proofs.icmp_message.proved_icmp_message_pack.Goals as goal

pub returns-in-Some : goal.returns-in-Some
returns-in-Some c =
    let is = sym c.fields.ensures ∙ ap (option_map icmp_message_of) c.in-Some.is in
    subst (λ it. PacksInto (IsSomeAnd it icmp_message_packable) High (icmp_message_room it) (icmp_message_held it)
    c.args.buffer.now c.put.result c.put.new.buffer) (sym is) c.put.ensures
