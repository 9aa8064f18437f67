-- Made by `./format --c` from ../bitstream_callers/formats/primary_header.fields: edit that file and make this one anew.
use Rattle.ccsds_c.specs.PrimaryHeader.{primary_header_parsed}
use Rattle.ccsds_c.specs.declared.primary_header.PrimaryHeaderParsed.{PrimaryHeaderParsed}
use Rattle.ccsds_c.proofs.PrimaryHeaderLemmas.{first_bytes, ok_only}
use Rattle.std.proofs.Common.{◌≡◌, ◌∙◌, sym, ap}
use Rattle.std.specs.Prelude.{drop}
use Rattle.bitstream_io.specs.Callers.{High, bits}
use Rattle.ccsds_c.proofs.primary_header.proved_primary_header_parse.Goals as goal

pub returns-clause-round_trip : goal.returns-clause-round_trip
returns-clause-round_trip c = λ value fits is.
    c.parsed.ensures ∙ ap primary_header_parsed (c.parse.ensures.back value (bits High (drop 6 c.args.bytes.now)) fits
    (first_bytes value _ is))

pub returns-clause-ok : goal.returns-clause-ok
returns-clause-ok c =
    let told : c.parsed.result.status ≡ (primary_header_parsed c.parse.result).status =
    ap (λ (it : PrimaryHeaderParsed). it.status) c.parsed.ensures in (
      (λ ok. ok_only _ c.parse.result c.parse.ensures.short c.parse.ensures.wrong_version (sym told ∙ ok)),
      (λ all. told ∙ ap (λ it. (primary_header_parsed it).status) (c.parse.ensures.there all.0 all.1)),
    )
