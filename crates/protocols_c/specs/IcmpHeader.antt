-- Made by `./format --c` from ../protocols/formats/icmp_header.fields: edit that file and make this one anew.
-- A `IcmpHeader` as C sees it.
use Rattle.protocols_c.specs.declared.icmp_header.IcmpHeaderC.{IcmpHeaderC}
use Rattle.protocols_c.specs.declared.icmp_header.IcmpHeaderParsed.{IcmpHeaderParsed}
use Rattle.protocols_c.specs.IcmpIds.{icmp_ids_to_c, icmp_ids_from_c, icmp_ids_zero}
use Rattle.protocols_c.specs.declared.icmp_ids.IcmpIdsC.{IcmpIdsC}
use Rattle.protocols_c.specs.IcmpGateway.{icmp_gateway_to_c, icmp_gateway_from_c, icmp_gateway_zero}
use Rattle.protocols_c.specs.declared.icmp_gateway.IcmpGatewayC.{IcmpGatewayC}
use Rattle.protocols.specs.IcmpHeader.{icmp_header_size, icmp_header_bits}
use Rattle.protocols.specs.declared.icmp_header.IcmpHeader.{IcmpHeader}
use Rattle.protocols.specs.declared.icmp_header.Body.{Body}
use Rattle.protocols.specs.declared.icmp_header.Body.TheVariants.{EchoReply as BodyEchoReply, Redirect as BodyRedirect, Echo as BodyEcho, Other as BodyOther}
use Rattle.protocols.specs.declared.icmp_ids.IcmpIds.{IcmpIds}
use Rattle.protocols.specs.declared.icmp_gateway.IcmpGateway.{IcmpGateway}
use Rattle.std.specs.Prelude.{◌+◌, ◌/◌, [], ◌==◌, if◌then◌else◌, ℕ, ℤ, Bool, List, Result, Ok, Err, Option, Some, None, pos}
use Rattle.bitstream_io.specs.Codec.{Prefix, Incomplete, Done}
use Rattle.bitstream_io.specs.Callers.{Error, High}

-- the case of a `Body`
abbrev pub icmp_header_body_case : Body → ℕ
icmp_header_body_case (BodyEchoReply it) = 0
icmp_header_body_case (BodyRedirect it) = 1
icmp_header_body_case (BodyEcho it) = 2
icmp_header_body_case (BodyOther it) = 3

-- what the case `EchoReply` holds, with zeros in another case
abbrev pub icmp_header_body_echo_reply : Body → IcmpIdsC
icmp_header_body_echo_reply (BodyEchoReply it) = icmp_ids_to_c it
icmp_header_body_echo_reply (BodyRedirect it) = icmp_ids_zero
icmp_header_body_echo_reply (BodyEcho it) = icmp_ids_zero
icmp_header_body_echo_reply (BodyOther it) = icmp_ids_zero

-- what the case `Redirect` holds, with zeros in another case
abbrev pub icmp_header_body_redirect : Body → IcmpGatewayC
icmp_header_body_redirect (BodyEchoReply it) = icmp_gateway_zero
icmp_header_body_redirect (BodyRedirect it) = icmp_gateway_to_c it
icmp_header_body_redirect (BodyEcho it) = icmp_gateway_zero
icmp_header_body_redirect (BodyOther it) = icmp_gateway_zero

-- what the case `Echo` holds, with zeros in another case
abbrev pub icmp_header_body_echo : Body → IcmpIdsC
icmp_header_body_echo (BodyEchoReply it) = icmp_ids_zero
icmp_header_body_echo (BodyRedirect it) = icmp_ids_zero
icmp_header_body_echo (BodyEcho it) = icmp_ids_to_c it
icmp_header_body_echo (BodyOther it) = icmp_ids_zero

-- what the case `Other` holds, with zeros in another case
abbrev pub icmp_header_body_other : Body → ℕ
icmp_header_body_other (BodyEchoReply it) = 0
icmp_header_body_other (BodyRedirect it) = 0
icmp_header_body_other (BodyEcho it) = 0
icmp_header_body_other (BodyOther it) = it

-- the case `Echo` of C, if what it holds has fields
abbrev pub icmp_header_body_echo_there : Option IcmpIds → Option Body
icmp_header_body_echo_there (Some it) = Some (BodyEcho it)
icmp_header_body_echo_there None = None

-- the case `Redirect` of C, if what it holds has fields
abbrev pub icmp_header_body_redirect_there : Option IcmpGateway → Option Body
icmp_header_body_redirect_there (Some it) = Some (BodyRedirect it)
icmp_header_body_redirect_there None = None

-- the case `EchoReply` of C, if what it holds has fields
abbrev pub icmp_header_body_echo_reply_there : Option IcmpIds → Option Body
icmp_header_body_echo_reply_there (Some it) = Some (BodyEchoReply it)
icmp_header_body_echo_reply_there None = None

-- the `Body` of a case of C, or none
abbrev pub icmp_header_body_from : ℕ → IcmpIdsC → IcmpGatewayC → IcmpIdsC → ℕ → Option Body
icmp_header_body_from case echo_reply redirect echo other = if case == 0 then icmp_header_body_echo_reply_there (icmp_ids_from_c echo_reply) else if case == 1 then icmp_header_body_redirect_there (icmp_gateway_from_c redirect) else if case == 2 then icmp_header_body_echo_there (icmp_ids_from_c echo) else if case == 3 then Some (BodyOther other) else None

-- the struct of C with these fields
abbrev pub icmp_header_to_c : IcmpHeader → IcmpHeaderC
icmp_header_to_c value = record {
  code = value.code;
  checksum = value.checksum;
  body_case = icmp_header_body_case value.body;
  body_echo_reply = icmp_header_body_echo_reply value.body;
  body_redirect = icmp_header_body_redirect value.body;
  body_echo = icmp_header_body_echo value.body;
  body_other = icmp_header_body_other value.body;
}

-- the fields of a struct of C, of which some are made already
abbrev pub icmp_header_made : IcmpHeaderC → Option Body → Option IcmpHeader
icmp_header_made c (Some body) = Some (record {
  code = c.code;
  checksum = c.checksum;
  body = body;
})
icmp_header_made c None = None

-- the fields of a struct of C, or none if a number of C is no value of its field
abbrev pub icmp_header_from_c : IcmpHeaderC → Option IcmpHeader
icmp_header_from_c c = icmp_header_made c (icmp_header_body_from c.body_case c.body_echo_reply c.body_redirect c.body_echo c.body_other)

-- the struct of C after an error
abbrev pub icmp_header_zero : IcmpHeaderC
icmp_header_zero = record {
  code = 0;
  checksum = 0;
  body_case = 0;
  body_echo_reply = icmp_ids_zero;
  body_redirect = icmp_gateway_zero;
  body_echo = icmp_ids_zero;
  body_other = 0;
}

-- the number of bytes of fields
abbrev pub icmp_header_bytes : IcmpHeader → ℕ
icmp_header_bytes value = (icmp_header_size High value + 7) / 8

-- the number of bytes of the fields of a struct of C, if it has fields
abbrev pub icmp_header_room : Option IcmpHeader → ℕ
icmp_header_room (Some value) = icmp_header_bytes value
icmp_header_room None = 0

-- the result of a parse that failed
abbrev pub icmp_header_failed : ℤ → IcmpHeaderParsed
icmp_header_failed status = record { status = status; taken = 0; value = icmp_header_zero }

-- the result of a parse for C: 0, the number of bytes that were taken and the fields, or which error
abbrev pub icmp_header_parsed : ℕ → Result IcmpHeader Error → IcmpHeaderParsed
icmp_header_parsed taken (Ok value) = record { status = pos 0; taken = taken; value = icmp_header_to_c value }
icmp_header_parsed taken (Err e) = icmp_header_failed (pos 1)

-- the same for what the decoder says of all bits: too few, or its result after the first n
abbrev pub icmp_header_answer : Prefix IcmpHeader → IcmpHeaderParsed
icmp_header_answer Incomplete = icmp_header_failed (pos 1)
icmp_header_answer (Done n (Ok value)) = icmp_header_parsed ((n + 7) / 8) (Ok value)
icmp_header_answer (Done n (Err e)) = icmp_header_failed (pos 1)

-- the bits of the fields of a struct of C, if it has fields
abbrev pub icmp_header_held : Option IcmpHeader → List Bool
icmp_header_held (Some value) = icmp_header_bits value
icmp_header_held None = []
