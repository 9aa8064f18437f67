-- Made by `./format --c` from ../network_messages/formats/ipv4_pseudo.fields: edit that file and make this one anew.
-- A `Ipv4Pseudo` as C sees it.
use Rattle.network_messages_c.specs.declared.ipv4_pseudo.Ipv4PseudoC.{Ipv4PseudoC}
use Rattle.network_messages_c.specs.declared.ipv4_pseudo.Ipv4PseudoParsed.{Ipv4PseudoParsed}
use Rattle.network_messages.specs.Ipv4Pseudo.{ipv4_pseudo_bits}
use Rattle.network_messages.specs.declared.ipv4_pseudo.Ipv4Pseudo.{Ipv4Pseudo}
use Rattle.std.specs.Prelude.{◌∷◌, [], Bool, List, Result, Ok, Err, Option, Some, None, pos}
use Rattle.bitstream_io.specs.Callers.{Error}

-- the struct of C with these fields
abbrev pub ipv4_pseudo_to_c : Ipv4Pseudo → Ipv4PseudoC
ipv4_pseudo_to_c value = record {
  source = value.source;
  target = value.target;
  protocol = value.protocol;
  length = value.length;
}

-- the fields of a struct of C, or none if a number of C is no value of its field
abbrev pub ipv4_pseudo_from_c : Ipv4PseudoC → Option Ipv4Pseudo
ipv4_pseudo_from_c c = Some (record {
  source = c.source;
  target = c.target;
  protocol = c.protocol;
  length = c.length;
})

-- the struct of C after an error
abbrev pub ipv4_pseudo_zero : Ipv4PseudoC
ipv4_pseudo_zero = record {
  source = 0 ∷ 0 ∷ 0 ∷ 0 ∷ [];
  target = 0 ∷ 0 ∷ 0 ∷ 0 ∷ [];
  protocol = 0;
  length = 0;
}

-- the result of a parse for C: 0 and the fields, or which error
abbrev pub ipv4_pseudo_parsed : Result Ipv4Pseudo Error → Ipv4PseudoParsed
ipv4_pseudo_parsed (Ok value) = record { status = pos 0; value = ipv4_pseudo_to_c value }
ipv4_pseudo_parsed (Err e) = record { status = pos 1; value = ipv4_pseudo_zero }

-- the same for the result of the decoder, whose errors are the reader's
abbrev pub ipv4_pseudo_answer : Result Ipv4Pseudo Error → Ipv4PseudoParsed
ipv4_pseudo_answer (Ok value) = ipv4_pseudo_parsed (Ok value)
ipv4_pseudo_answer (Err e) = record { status = pos 1; value = ipv4_pseudo_zero }

-- the bits of the fields of a struct of C, if it has fields
abbrev pub ipv4_pseudo_held : Option Ipv4Pseudo → List Bool
ipv4_pseudo_held (Some value) = ipv4_pseudo_bits value
ipv4_pseudo_held None = []
