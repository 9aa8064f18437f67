-- Made by `./format --c` from ../network_messages/formats/ipv4_pseudo.fields: edit that file and make this one anew.
use Rattle.network_messages_c.specs.Ipv4Pseudo.{ipv4_pseudo_parsed}
use Rattle.network_messages_c.specs.declared.ipv4_pseudo.Ipv4PseudoParsed.{Ipv4PseudoParsed}
use Rattle.network_messages_c.proofs.Ipv4PseudoLemmas.{first_bytes, ok_only}
use Rattle.std.proofs.Common.{◌≡◌, ◌∙◌, sym, ap}
use Rattle.std.specs.Prelude.{drop}
use Rattle.bitstream_io.specs.Callers.{High, bits}
use Rattle.network_messages_c.proofs.ipv4_pseudo.proved_ipv4_pseudo_parse.Goals as goal

pub returns-clause-round_trip : goal.returns-clause-round_trip
returns-clause-round_trip c = λ value fits is.
    c.parsed.ensures ∙ ap ipv4_pseudo_parsed (c.parse.ensures.back value (bits High (drop 12 c.args.bytes.now)) fits
    (first_bytes value _ is))

pub returns-clause-ok : goal.returns-clause-ok
returns-clause-ok c =
    let told : c.parsed.result.status ≡ (ipv4_pseudo_parsed c.parse.result).status =
    ap (λ (it : Ipv4PseudoParsed). it.status) c.parsed.ensures in (
      (λ ok. ok_only _ c.parse.result c.parse.ensures.short (sym told ∙ ok)),
      (λ all. told ∙ ap (λ it. (ipv4_pseudo_parsed it).status) (c.parse.ensures.there all)),
    )
