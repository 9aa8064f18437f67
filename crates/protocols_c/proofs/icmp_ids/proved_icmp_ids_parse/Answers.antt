-- Made by `./format --c` from ../protocols/formats/icmp_ids.fields: edit that file and make this one anew.
use Rattle.protocols_c.specs.IcmpIds.{icmp_ids_parsed}
use Rattle.protocols_c.specs.declared.icmp_ids.IcmpIdsParsed.{IcmpIdsParsed}
use Rattle.protocols_c.proofs.IcmpIdsLemmas.{first_bytes, ok_only}
use Rattle.std.proofs.Common.{◌≡◌, ◌∙◌, sym, ap}
use Rattle.std.specs.Prelude.{drop}
use Rattle.bitstream_io.specs.Callers.{High, bits}
use Rattle.protocols_c.proofs.icmp_ids.proved_icmp_ids_parse.Goals as goal

pub returns-clause-round_trip : goal.returns-clause-round_trip
returns-clause-round_trip c = λ value fits is.
    c.parsed.ensures ∙ ap icmp_ids_parsed (c.parse.ensures.back value (bits High (drop 4 c.args.bytes.now)) fits
    (first_bytes value _ is))

pub returns-clause-ok : goal.returns-clause-ok
returns-clause-ok c =
    let told : c.parsed.result.status ≡ (icmp_ids_parsed c.parse.result).status =
    ap (λ (it : IcmpIdsParsed). it.status) c.parsed.ensures in (
      (λ ok. ok_only _ c.parse.result c.parse.ensures.short (sym told ∙ ok)),
      (λ all. told ∙ ap (λ it. (icmp_ids_parsed it).status) (c.parse.ensures.there all)),
    )
