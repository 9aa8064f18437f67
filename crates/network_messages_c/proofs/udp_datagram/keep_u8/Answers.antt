-- Made by `./format --c` from ../network_messages/formats/udp_datagram.fields: edit that file and make this one anew.
use Rattle.std.proofs.Common.{◌≡◌, ◌∙◌, ◌<◌, ◌≤◌, length, set, sym, ap, subst, arith}
use Rattle.network_messages_c.proofs.ListLemmas.{kept_more, kept_none}
use Rattle.network_messages_c.proofs.udp_datagram.keep_u8.Goals as goal

pub returns : goal.returns
returns c = λ all was size is.
    let more = kept_more all was c.args.items.now c.args.item (omega (arith, size, c.if-place-items.false)) is in
    ap (λ k. set c.args.items.now k c.args.item) (sym size) ∙ more
