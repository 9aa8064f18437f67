-- Made by `./format --c` from ../network_messages/formats/icmp_message.fields: edit that file and make this one anew.
use Rattle.network_messages_c.specs.IcmpMessage.{icmp_message_bytes, icmp_message_packable, icmp_message_of}
use Rattle.network_messages.specs.IcmpMessage.{Fits}
use Rattle.network_messages.proofs.IcmpMessageLemmas.{icmp_message_packs, told}
use Rattle.network_messages_c.proofs.SharedLemmas.{bytes_of, packs-begun}
use Rattle.std.proofs.Common.{◌≡◌, ◌≤◌, length, refl, arith, rules}
use Rattle.bitstream_io.specs.Callers.{High}
use Rattle.network_messages_c.proofs.icmp_message.put.Goals as goal

pub write_first-requires-clause-accepted : goal.write_first-requires-clause-accepted
write_first-requires-clause-accepted c =
    let fit : Fits (icmp_message_of c.args.fields.now) = search rules in
    let few_0 : length (icmp_message_of c.args.fields.now).data ≤ 4294967295 = search rules in
    let fits : icmp_message_packable (icmp_message_of c.args.fields.now) = (fit, few_0) in
    (icmp_message_packs High (icmp_message_of c.args.fields.now) fits.0).accepted 0

pub write_first-requires-clause-room : goal.write_first-requires-clause-room
write_first-requires-clause-room c =
    let fit : Fits (icmp_message_of c.args.fields.now) = search rules in
    let few_0 : length (icmp_message_of c.args.fields.now).data ≤ 4294967295 = search rules in
    let fits : icmp_message_packable (icmp_message_of c.args.fields.now) = (fit, few_0) in
    let size = c.size.ensures in
    let whole = c.div_ceil-written.ensures in
    let same : c.div_ceil-written.result ≡ icmp_message_bytes (icmp_message_of c.args.fields.now) = omega arith in
    omega (arith, same, bytes_of (icmp_message_packs High (icmp_message_of c.args.fields.now) fits.0))

pub returns : goal.returns
returns c =
    let fit : Fits (icmp_message_of c.args.fields.now) = search rules in
    let few_0 : length (icmp_message_of c.args.fields.now).data ≤ 4294967295 = search rules in
    let fits : icmp_message_packable (icmp_message_of c.args.fields.now) = (fit, few_0) in
    let size = c.size.ensures in
    let whole = c.div_ceil-written.ensures in
    let same : c.div_ceil-written.result ≡ icmp_message_bytes (icmp_message_of c.args.fields.now) = omega arith in
    rw same (packs-begun fits (icmp_message_packs High (icmp_message_of c.args.fields.now) fits.0) refl (omega arith) (told (icmp_message_of c.args.fields.now)) c.write_first.ensures)
