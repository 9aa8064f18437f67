-- Made by `./format --c` from ../bitstream_callers/formats/primary_header.fields: edit that file and make this one anew.
-- A `PrimaryHeader` as C sees it.
use Rattle.ccsds_c.specs.declared.primary_header.PrimaryHeaderC.{PrimaryHeaderC}
use Rattle.ccsds_c.specs.declared.primary_header.PrimaryHeaderParsed.{PrimaryHeaderParsed}
use Rattle.bitstream_callers.specs.PrimaryHeader.{primary_header_bits}
use Rattle.bitstream_callers.specs.declared.primary_header.PrimaryHeader.{PrimaryHeader}
use Rattle.bitstream_callers.specs.declared.primary_header.PrimaryHeaderError.{PrimaryHeaderError}
use Rattle.bitstream_callers.specs.declared.primary_header.PrimaryHeaderError.TheVariants.{Reader, WrongVersion}
use Rattle.std.specs.Prelude.{[], ◌==◌, if◌then◌else◌, Bool, not, List, Result, Ok, Err, Option, Some, None, pos}
use Rattle.bitstream_io.specs.Callers.{Error}

-- the struct of C with these fields
abbrev pub primary_header_to_c : PrimaryHeader → PrimaryHeaderC
primary_header_to_c value = record {
  telecommand = if value.telecommand then 1 else 0;
  secondary = if value.secondary then 1 else 0;
  apid = value.apid;
  sequence = value.sequence;
  count = value.count;
  length = value.length;
}

-- the fields of a struct of C, or none if a number of C is no value of its field
abbrev pub primary_header_from_c : PrimaryHeaderC → Option PrimaryHeader
primary_header_from_c c = Some (record {
  telecommand = not (c.telecommand == 0);
  secondary = not (c.secondary == 0);
  apid = c.apid;
  sequence = c.sequence;
  count = c.count;
  length = c.length;
})

-- the struct of C after an error
abbrev pub primary_header_zero : PrimaryHeaderC
primary_header_zero = record {
  telecommand = 0;
  secondary = 0;
  apid = 0;
  sequence = 0;
  count = 0;
  length = 0;
}

-- the result of a parse for C: 0 and the fields, or which error
abbrev pub primary_header_parsed : Result PrimaryHeader PrimaryHeaderError → PrimaryHeaderParsed
primary_header_parsed (Ok value) = record { status = pos 0; value = primary_header_to_c value }
primary_header_parsed (Err (Reader e)) = record { status = pos 1; value = primary_header_zero }
primary_header_parsed (Err WrongVersion) = record { status = pos 5; value = primary_header_zero }

-- the same for the result of the decoder, whose errors are the reader's
abbrev pub primary_header_answer : Result (Result PrimaryHeader PrimaryHeaderError) Error → PrimaryHeaderParsed
primary_header_answer (Ok value) = primary_header_parsed value
primary_header_answer (Err e) = record { status = pos 1; value = primary_header_zero }

-- the bits of the fields of a struct of C, if it has fields
abbrev pub primary_header_held : Option PrimaryHeader → List Bool
primary_header_held (Some value) = primary_header_bits value
primary_header_held None = []
