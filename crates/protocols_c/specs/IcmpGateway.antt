-- Made by `./format --c` from ../protocols/formats/icmp_gateway.fields: edit that file and make this one anew.
-- A `IcmpGateway` as C sees it.
use Rattle.protocols_c.specs.declared.icmp_gateway.IcmpGatewayC.{IcmpGatewayC}
use Rattle.protocols_c.specs.declared.icmp_gateway.IcmpGatewayParsed.{IcmpGatewayParsed}
use Rattle.protocols.specs.IcmpGateway.{icmp_gateway_bits}
use Rattle.protocols.specs.declared.icmp_gateway.IcmpGateway.{IcmpGateway}
use Rattle.std.specs.Prelude.{◌∷◌, [], Bool, List, Result, Ok, Err, Option, Some, None, pos}
use Rattle.bitstream_io.specs.Callers.{Error}

-- the struct of C with these fields
abbrev pub icmp_gateway_to_c : IcmpGateway → IcmpGatewayC
icmp_gateway_to_c value = record {
  address = value.address;
}

-- the fields of a struct of C, or none if a number of C is no value of its field
abbrev pub icmp_gateway_from_c : IcmpGatewayC → Option IcmpGateway
icmp_gateway_from_c c = Some (record {
  address = c.address;
})

-- the struct of C after an error
abbrev pub icmp_gateway_zero : IcmpGatewayC
icmp_gateway_zero = record {
  address = 0 ∷ 0 ∷ 0 ∷ 0 ∷ [];
}

-- the result of a parse for C: 0 and the fields, or which error
abbrev pub icmp_gateway_parsed : Result IcmpGateway Error → IcmpGatewayParsed
icmp_gateway_parsed (Ok value) = record { status = pos 0; value = icmp_gateway_to_c value }
icmp_gateway_parsed (Err e) = record { status = pos 1; value = icmp_gateway_zero }

-- the same for the result of the decoder, whose errors are the reader's
abbrev pub icmp_gateway_answer : Result IcmpGateway Error → IcmpGatewayParsed
icmp_gateway_answer (Ok value) = icmp_gateway_parsed (Ok value)
icmp_gateway_answer (Err e) = record { status = pos 1; value = icmp_gateway_zero }

-- the bits of the fields of a struct of C, if it has fields
abbrev pub icmp_gateway_held : Option IcmpGateway → List Bool
icmp_gateway_held (Some value) = icmp_gateway_bits value
icmp_gateway_held None = []
