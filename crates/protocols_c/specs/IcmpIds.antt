-- Made by `./format --c` from ../protocols/formats/icmp_ids.fields: edit that file and make this one anew.
-- A `IcmpIds` as C sees it.
use Rattle.protocols_c.specs.declared.icmp_ids.IcmpIdsC.{IcmpIdsC}
use Rattle.protocols_c.specs.declared.icmp_ids.IcmpIdsParsed.{IcmpIdsParsed}
use Rattle.protocols.specs.IcmpIds.{icmp_ids_bits}
use Rattle.protocols.specs.declared.icmp_ids.IcmpIds.{IcmpIds}
use Rattle.std.specs.Prelude.{[], Bool, List, Result, Ok, Err, Option, Some, None, pos}
use Rattle.bitstream_io.specs.Callers.{Error}

-- the struct of C with these fields
abbrev pub icmp_ids_to_c : IcmpIds → IcmpIdsC
icmp_ids_to_c value = record {
  identifier = value.identifier;
  sequence = value.sequence;
}

-- the fields of a struct of C, or none if a number of C is no value of its field
abbrev pub icmp_ids_from_c : IcmpIdsC → Option IcmpIds
icmp_ids_from_c c = Some (record {
  identifier = c.identifier;
  sequence = c.sequence;
})

-- the struct of C after an error
abbrev pub icmp_ids_zero : IcmpIdsC
icmp_ids_zero = record {
  identifier = 0;
  sequence = 0;
}

-- the result of a parse for C: 0 and the fields, or which error
abbrev pub icmp_ids_parsed : Result IcmpIds Error → IcmpIdsParsed
icmp_ids_parsed (Ok value) = record { status = pos 0; value = icmp_ids_to_c value }
icmp_ids_parsed (Err e) = record { status = pos 1; value = icmp_ids_zero }

-- the same for the result of the decoder, whose errors are the reader's
abbrev pub icmp_ids_answer : Result IcmpIds Error → IcmpIdsParsed
icmp_ids_answer (Ok value) = icmp_ids_parsed (Ok value)
icmp_ids_answer (Err e) = record { status = pos 1; value = icmp_ids_zero }

-- the bits of the fields of a struct of C, if it has fields
abbrev pub icmp_ids_held : Option IcmpIds → List Bool
icmp_ids_held (Some value) = icmp_ids_bits value
icmp_ids_held None = []
