-- Made by `./format --c` from ../protocols/formats/report_block.fields: edit that file and make this one anew.
use Rattle.protocols_c.specs.ReportBlock.{report_block_parsed}
use Rattle.protocols_c.specs.declared.report_block.ReportBlockParsed.{ReportBlockParsed}
use Rattle.protocols_c.proofs.ReportBlockLemmas.{first_bytes, ok_only}
use Rattle.std.proofs.Common.{◌≡◌, ◌∙◌, sym, ap}
use Rattle.std.specs.Prelude.{drop}
use Rattle.bitstream_io.specs.Callers.{High, bits}
use Rattle.protocols_c.proofs.report_block.proved_report_block_parse.Goals as goal

pub returns-clause-round_trip : goal.returns-clause-round_trip
returns-clause-round_trip c = λ value fits is.
    c.parsed.ensures ∙ ap report_block_parsed (c.parse.ensures.back value (bits High (drop 24 c.args.bytes.now)) fits
    (first_bytes value _ is))

pub returns-clause-ok : goal.returns-clause-ok
returns-clause-ok c =
    let told : c.parsed.result.status ≡ (report_block_parsed c.parse.result).status =
    ap (λ (it : ReportBlockParsed). it.status) c.parsed.ensures in (
      (λ ok. ok_only _ c.parse.result c.parse.ensures.short (sym told ∙ ok)),
      (λ all. told ∙ ap (λ it. (report_block_parsed it).status) (c.parse.ensures.there all)),
    )
