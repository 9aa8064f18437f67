-- Made by `./format --c` from ../protocols/formats/coap_header.fields: edit that file and make this one anew.
use Rattle.protocols_c.specs.CoapHeader.{coap_header_held, coap_header_room, coap_header_of}
use Rattle.protocols_c.specs.Shared.{PacksInto}
use Rattle.protocols.specs.CoapHeader.{Fits}
use Rattle.std.proofs.Common.{◌∙◌, sym, ap, subst}
use Rattle.std.specs.Prelude.{option_map, IsSomeAnd}
use Rattle.bitstream_io.specs.Callers.{High}
use Rattle.protocols_c.proofs.coap_header.proved_coap_header_pack.Goals as goal

pub returns-in-Some : goal.returns-in-Some
returns-in-Some c =
    let is = sym c.fields.ensures ∙ ap (option_map coap_header_of) c.in-Some.is in
    subst (λ it. PacksInto (IsSomeAnd it Fits) High (coap_header_room it) (coap_header_held it)
    c.args.buffer.now c.put.result c.put.new.buffer) (sym is) c.put.ensures
