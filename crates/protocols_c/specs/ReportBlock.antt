-- Made by `./format --c` from ../protocols/formats/report_block.fields: edit that file and make this one anew.
-- A `ReportBlock` as C sees it.
use Rattle.protocols_c.specs.declared.report_block.ReportBlockC.{ReportBlockC}
use Rattle.protocols_c.specs.declared.report_block.ReportBlockParsed.{ReportBlockParsed}
use Rattle.protocols.specs.ReportBlock.{report_block_bits}
use Rattle.protocols.specs.declared.report_block.ReportBlock.{ReportBlock}
use Rattle.std.specs.Prelude.{[], Bool, List, Result, Ok, Err, Option, Some, None, pos}
use Rattle.bitstream_io.specs.Callers.{Error}

-- the struct of C with these fields
abbrev pub report_block_to_c : ReportBlock → ReportBlockC
report_block_to_c value = record {
  ssrc = value.ssrc;
  fraction_lost = value.fraction_lost;
  lost = value.lost;
  highest = value.highest;
  jitter = value.jitter;
  last_report = value.last_report;
  delay = value.delay;
}

-- the fields of a struct of C, or none if a number of C is no value of its field
abbrev pub report_block_from_c : ReportBlockC → Option ReportBlock
report_block_from_c c = Some (record {
  ssrc = c.ssrc;
  fraction_lost = c.fraction_lost;
  lost = c.lost;
  highest = c.highest;
  jitter = c.jitter;
  last_report = c.last_report;
  delay = c.delay;
})

-- the struct of C after an error
abbrev pub report_block_zero : ReportBlockC
report_block_zero = record {
  ssrc = 0;
  fraction_lost = 0;
  lost = pos 0;
  highest = 0;
  jitter = 0;
  last_report = 0;
  delay = 0;
}

-- the result of a parse for C: 0 and the fields, or which error
abbrev pub report_block_parsed : Result ReportBlock Error → ReportBlockParsed
report_block_parsed (Ok value) = record { status = pos 0; value = report_block_to_c value }
report_block_parsed (Err e) = record { status = pos 1; value = report_block_zero }

-- the same for the result of the decoder, whose errors are the reader's
abbrev pub report_block_answer : Result ReportBlock Error → ReportBlockParsed
report_block_answer (Ok value) = report_block_parsed (Ok value)
report_block_answer (Err e) = record { status = pos 1; value = report_block_zero }

-- the bits of the fields of a struct of C, if it has fields
abbrev pub report_block_held : Option ReportBlock → List Bool
report_block_held (Some value) = report_block_bits value
report_block_held None = []
