-- Made by `./format --c` from ../protocols/formats/coap_header.fields: edit that file and make this one anew.
use Rattle.protocols_c.specs.CoapHeader.{coap_header_of}
use Rattle.protocols.specs.CoapHeader.{coap_header_writes}
use Rattle.protocols_c.proofs.CoapHeaderLemmas.{coap_header_most}
use Rattle.protocols.proofs.CoapHeaderLemmas.{coap_header_packs}
use Rattle.protocols_c.proofs.VariedLemmas.{counted_past}
use Rattle.std.proofs.Common.{◌∙◌, refl, arith}
use Rattle.bitstream_io.proofs.SequenceLemmas.{counted}
use Rattle.bitstream_io.specs.Callers.{High}
use Rattle.protocols_c.proofs.coap_header.size.Goals as goal

pub returns : goal.returns
returns c =
    let all = coap_header_packs High (coap_header_of c.args.fields.now) c.requires in
    c.into_written.ensures ∙ counted _ (coap_header_writes High (coap_header_of c.args.fields.now)) _ _ refl c.new-counter.ensures c.in-Ok.ensures ∙ all.size 0

pub unreachable-requires : goal.unreachable-requires
unreachable-requires c =
    let all = coap_header_packs High (coap_header_of c.args.fields.now) c.requires in
    let size = all.size 0 in
    let most = coap_header_most (coap_header_of c.args.fields.now) c.requires in
    let more = counted_past _ 18446744073709551615 refl (λ x may. may) (coap_header_writes High (coap_header_of c.args.fields.now)) _ _ _ c.new-counter.ensures
    refl (all.accepted 0) c.in-Err.ensures in
    omega (arith, more, size, most)
