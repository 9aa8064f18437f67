-- Made by `./format --c` from ../protocols/formats/coap_header.fields: edit that file and make this one anew.
-- A `CoapHeader` as C sees it.
use Rattle.protocols_c.specs.Lists.{stored}
use Rattle.protocols_c.specs.declared.coap_header.CoapHeaderGiven.{CoapHeaderGiven}
use Rattle.protocols_c.specs.declared.coap_header.CoapHeaderC.{CoapHeaderC}
use Rattle.protocols_c.specs.declared.coap_header.CoapHeaderParsed.{CoapHeaderParsed}
use Rattle.protocols.specs.CoapHeader.{coap_header_decoder, coap_header_size, coap_header_bits, becomes_coap_header, message_of, message_number}
use Rattle.protocols.specs.declared.coap_header.CoapHeader.{CoapHeader}
use Rattle.protocols.specs.declared.coap_header.CoapError.{CoapError}
use Rattle.protocols.specs.declared.coap_header.CoapError.TheVariants.{Reader, OtherVersion}
use Rattle.protocols.specs.declared.coap_header.Message.{Message}
use Rattle.std.specs.Prelude.{◌≡◌, ◌+◌, ◌/◌, [], if◌then◌else◌, ℕ, ℤ, Bool, List, Result, Ok, Err, Option, Some, None, length, pos, nat_lt}
use Rattle.bitstream_io.specs.Reads.{BitSource}
use Rattle.bitstream_io.specs.Codec.{Prefix, Incomplete, Done}
use Rattle.bitstream_io.specs.Callers.{High, ReadsOwn, result_map}

-- the case of a number, or none for a number of more than 2 bits
abbrev pub coap_header_message_from : ℕ → Option Message
coap_header_message_from n = if nat_lt 3 n then None else Some (message_of n)

-- the struct of C with these fields
abbrev pub coap_header_to_c : CoapHeader → CoapHeaderC
coap_header_to_c value = record {
  kind = message_number value.kind;
  class = value.class;
  detail = value.detail;
  id = value.id;
  token = length value.token;
}

-- the fields of a struct of C, of which some are made already
abbrev pub coap_header_made : CoapHeaderC → List ℕ → Option Message → Option CoapHeader
coap_header_made c token_items (Some kind) = Some (record {
  kind = kind;
  class = c.class;
  detail = c.detail;
  id = c.id;
  token = token_items;
})
coap_header_made c token_items None = None

-- the fields of a struct of C, or none if a number of C is no value of its field
abbrev pub coap_header_from_c : CoapHeaderC → List ℕ → Option CoapHeader
coap_header_from_c c token_items = coap_header_made c token_items (coap_header_message_from c.kind)

-- the struct of C after an error
abbrev pub coap_header_zero : CoapHeaderC
coap_header_zero = record {
  kind = 0;
  class = 0;
  detail = 0;
  id = 0;
  token = 0;
}

-- the fields that a value holds
abbrev pub coap_header_of : CoapHeaderGiven → CoapHeader
coap_header_of value = record {
  kind = value.kind;
  class = value.class;
  detail = value.detail;
  id = value.id;
  token = value.token.now;
}

-- the number of bytes of fields
abbrev pub coap_header_bytes : CoapHeader → ℕ
coap_header_bytes value = (coap_header_size High value + 7) / 8

-- the number of bytes of the fields of a struct of C, if it has fields
abbrev pub coap_header_room : Option CoapHeader → ℕ
coap_header_room (Some value) = coap_header_bytes value
coap_header_room None = 0

-- the result of a parse that failed, with a number of items that there is no room for
abbrev pub coap_header_short : ℤ → ℕ → CoapHeaderParsed
coap_header_short status items = record { status = status; taken = items; value = coap_header_zero }

-- the same without such a number
abbrev pub coap_header_failed : ℤ → CoapHeaderParsed
coap_header_failed status = coap_header_short status 0

-- the result of a parse for C: 0, the number of bytes that were taken and the fields, or a list that has more items
-- than there is room for, with their number, or which error
abbrev pub coap_header_parsed : ℕ → ℕ → Result CoapHeaderC CoapError → CoapHeaderParsed
coap_header_parsed taken token_room (Ok c) = if nat_lt token_room c.token then coap_header_short (pos 5) c.token else record { status = pos 0; taken = taken; value = c }
coap_header_parsed taken token_room (Err (Reader e)) = coap_header_failed (pos 1)
coap_header_parsed taken token_room (Err OtherVersion) = coap_header_failed (pos 6)

-- the same for what the decoder says of all bits: too few, or its result after the first n
abbrev pub coap_header_answer : ℕ → Prefix (Result CoapHeader CoapError) → CoapHeaderParsed
coap_header_answer token_room Incomplete = coap_header_failed (pos 1)
coap_header_answer token_room (Done n (Ok x)) = coap_header_parsed ((n + 7) / 8) token_room (result_map coap_header_to_c x)
coap_header_answer token_room (Done n (Err e)) = coap_header_failed (pos 1)

-- A read whose lists are stored: `found` is what the decoder says, and the slices hold the items of its lists.
pub record CoapHeaderRead {R : Type 0} (K : BitSource R) (old : R) (token_was : List ℕ)
    (result : Result CoapHeaderC CoapError) (new : R) (token_now : List ℕ) : Type 0 where
  pub found : Result CoapHeader CoapError
  pub reads : ReadsOwn K becomes_coap_header (coap_header_decoder K.order) old found new
  pub told : result ≡ result_map coap_header_to_c found
  pub token_items : (value : CoapHeader) → found ≡ Ok value → token_now ≡ stored value.token token_was

-- the bits of the fields of a struct of C, if it has fields
abbrev pub coap_header_held : Option CoapHeader → List Bool
coap_header_held (Some value) = coap_header_bits value
coap_header_held None = []
