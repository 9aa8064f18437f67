-- Made by `./format --c` from ../protocols/formats/stun_header.fields: edit that file and make this one anew.
-- A `StunHeader` as C sees it.
use Rattle.protocols_c.specs.declared.stun_header.StunHeaderC.{StunHeaderC}
use Rattle.protocols_c.specs.declared.stun_header.StunHeaderParsed.{StunHeaderParsed}
use Rattle.protocols.specs.StunHeader.{stun_header_bits}
use Rattle.protocols.specs.declared.stun_header.StunHeader.{StunHeader}
use Rattle.protocols.specs.declared.stun_header.StunHeaderError.{StunHeaderError}
use Rattle.protocols.specs.declared.stun_header.StunHeaderError.TheVariants.{Reader, NoStun, NoCookie}
use Rattle.std.specs.Prelude.{◌∷◌, [], Bool, List, Result, Ok, Err, Option, Some, None, pos}
use Rattle.bitstream_io.specs.Callers.{Error}

-- the struct of C with these fields
abbrev pub stun_header_to_c : StunHeader → StunHeaderC
stun_header_to_c value = record {
  kind = value.kind;
  length = value.length;
  id = value.id;
}

-- the fields of a struct of C, or none if a number of C is no value of its field
abbrev pub stun_header_from_c : StunHeaderC → Option StunHeader
stun_header_from_c c = Some (record {
  kind = c.kind;
  length = c.length;
  id = c.id;
})

-- the struct of C after an error
abbrev pub stun_header_zero : StunHeaderC
stun_header_zero = record {
  kind = 0;
  length = 0;
  id = 0 ∷ 0 ∷ 0 ∷ 0 ∷ 0 ∷ 0 ∷ 0 ∷ 0 ∷ 0 ∷ 0 ∷ 0 ∷ 0 ∷ [];
}

-- the result of a parse for C: 0 and the fields, or which error
abbrev pub stun_header_parsed : Result StunHeader StunHeaderError → StunHeaderParsed
stun_header_parsed (Ok value) = record { status = pos 0; value = stun_header_to_c value }
stun_header_parsed (Err (Reader e)) = record { status = pos 1; value = stun_header_zero }
stun_header_parsed (Err NoStun) = record { status = pos 5; value = stun_header_zero }
stun_header_parsed (Err NoCookie) = record { status = pos 6; value = stun_header_zero }

-- the same for the result of the decoder, whose errors are the reader's
abbrev pub stun_header_answer : Result (Result StunHeader StunHeaderError) Error → StunHeaderParsed
stun_header_answer (Ok value) = stun_header_parsed value
stun_header_answer (Err e) = record { status = pos 1; value = stun_header_zero }

-- the bits of the fields of a struct of C, if it has fields
abbrev pub stun_header_held : Option StunHeader → List Bool
stun_header_held (Some value) = stun_header_bits value
stun_header_held None = []
