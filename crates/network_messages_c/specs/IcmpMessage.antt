-- Made by `./format --c` from ../network_messages/formats/icmp_message.fields: edit that file and make this one anew.
-- A `IcmpMessage` as C sees it.
use Rattle.network_messages_c.specs.Lists.{stored}
use Rattle.network_messages_c.specs.declared.icmp_message.IcmpMessageFound.{IcmpMessageFound}
use Rattle.network_messages_c.specs.declared.icmp_message.IcmpMessageGiven.{IcmpMessageGiven}
use Rattle.network_messages_c.specs.declared.icmp_message.IcmpMessageC.{IcmpMessageC}
use Rattle.network_messages_c.specs.declared.icmp_message.IcmpMessageParsed.{IcmpMessageParsed}
use Rattle.network_messages.specs.IcmpMessage.{icmp_message_size, icmp_message_bits, Fits, becomes_icmp_message, echo_of, echo_number, echo_read}
use Rattle.network_messages.specs.declared.icmp_message.IcmpMessage.{IcmpMessage}
use Rattle.network_messages.specs.declared.icmp_message.IcmpMessageError.{IcmpMessageError}
use Rattle.network_messages.specs.declared.icmp_message.IcmpMessageError.TheVariants.{Reader, NoEcho, WrongSum}
use Rattle.network_messages.specs.declared.icmp_message.Echo.{Echo}
use Rattle.std.specs.Prelude.{◌≡◌, ◌≤◌, ◌+◌, ◌/◌, ◌++◌, [], ◌==◌, if◌then◌else◌, ℕ, ℤ, Bool, List, Result, Ok, Err, Option, Some, None, length, take, pos, nat_lt}
use Rattle.bitstream_io.specs.Reads.{BitSource}
use Rattle.bitstream_io.specs.Codec.{Prefix, Incomplete, Done}
use Rattle.bitstream_io.specs.Callers.{◌>>=◌, Decoder, pure, Order, High, and_then, unsigned_decoder, vec_decoder, ReadsOwn, result_map, part_then}
use Rattle.bitstream_format.specs.Checks.{bytes1, bytes2, sum16}

-- the struct of C with these fields
abbrev pub icmp_message_to_c : IcmpMessage → IcmpMessageC
icmp_message_to_c value = record {
  kind = echo_number value.kind;
  code = value.code;
  identifier = value.identifier;
  sequence = value.sequence;
  «data» = length value.data;
}

-- the fields of a struct of C, of which some are made already
abbrev pub icmp_message_made : IcmpMessageC → List ℕ → Result Echo IcmpMessageError → Option IcmpMessage
icmp_message_made c data_items (Ok kind) = Some (record {
  kind = kind;
  code = c.code;
  identifier = c.identifier;
  sequence = c.sequence;
  «data» = data_items;
})
icmp_message_made c data_items (Err e) = None

-- the fields of a struct of C, or none if a number of C is no value of its field
abbrev pub icmp_message_from_c : IcmpMessageC → List ℕ → Option IcmpMessage
icmp_message_from_c c data_items = icmp_message_made c data_items (echo_of c.kind)

-- the struct of C after an error
abbrev pub icmp_message_zero : IcmpMessageC
icmp_message_zero = record {
  kind = 0;
  code = 0;
  identifier = 0;
  sequence = 0;
  «data» = 0;
}

-- the fields that a value holds
abbrev pub icmp_message_of : IcmpMessageGiven → IcmpMessage
icmp_message_of value = record {
  kind = value.kind;
  code = value.code;
  identifier = value.identifier;
  sequence = value.sequence;
  «data» = value.data.now;
}

-- the number of bytes of fields
abbrev pub icmp_message_bytes : IcmpMessage → ℕ
icmp_message_bytes value = (icmp_message_size High value + 7) / 8

-- the number of bytes of the fields of a struct of C, if it has fields
abbrev pub icmp_message_room : Option IcmpMessage → ℕ
icmp_message_room (Some value) = icmp_message_bytes value
icmp_message_room None = 0

-- fields that a pack takes: they fit, and lists without a greatest length of their own are not longer
abbrev pub icmp_message_packable : IcmpMessage → Type 0
icmp_message_packable value = Fits value × (length value.data ≤ 4294967295)

-- the fields, and the checksum that was stored with them
pub record IcmpMessageStored : Type 0 where
  pub stored_sum16 : ℕ
  pub value : IcmpMessage

-- the fields, if the stored checksum is theirs
abbrev pub icmp_message_tested : IcmpMessageStored → Result IcmpMessage IcmpMessageError
icmp_message_tested it = if it.stored_sum16 == sum16 (bytes1 (echo_number it.value.kind) ++ bytes1 it.value.code ++ bytes2 it.value.identifier ++ bytes2 it.value.sequence ++ it.value.data) then Ok it.value else Err WrongSum

-- the reads, in order, after 1 that may be refused
abbrev pub icmp_message_unsummed_decoder_1 : Order → ℕ → Echo → Decoder (Result IcmpMessageStored IcmpMessageError)
icmp_message_unsummed_decoder_1 o data_bytes kind = do
  code ← unsigned_decoder o 8 8
  stored_sum16 ← unsigned_decoder o 16 16
  identifier ← unsigned_decoder o 16 16
  sequence ← unsigned_decoder o 16 16
  data_ ← vec_decoder o data_bytes
  pure (Ok (record { stored_sum16 = stored_sum16; value = record { kind = kind; code = code; identifier = identifier; sequence = sequence; «data» = data_ } }))

-- the reads, in order
abbrev pub icmp_message_unsummed_decoder : Order → ℕ → Decoder (Result IcmpMessageStored IcmpMessageError)
icmp_message_unsummed_decoder o data_bytes = and_then (echo_read o) (part_then (λ kind. icmp_message_unsummed_decoder_1 o data_bytes kind))

-- what a read found, of fields and a stored checksum
abbrev pub icmp_message_found : IcmpMessageStored → IcmpMessageFound
icmp_message_found it = record {
  stored_sum16 = it.stored_sum16;
  kind = it.value.kind;
  code = it.value.code;
  identifier = it.value.identifier;
  sequence = it.value.sequence;
  «data» = length it.value.data;
}

-- the fields and the stored checksum, whose lists are the first items of these
abbrev pub icmp_message_filled : IcmpMessageFound → List ℕ → IcmpMessageStored
icmp_message_filled it data_items = record {
  stored_sum16 = it.stored_sum16;
  value = record {
    kind = it.kind;
    code = it.code;
    identifier = it.identifier;
    sequence = it.sequence;
    «data» = take it.data data_items;
  };
}

-- the result of a parse that failed, with a number of items that there is no room for
abbrev pub icmp_message_short : ℤ → ℕ → IcmpMessageParsed
icmp_message_short status items = record { status = status; taken = items; value = icmp_message_zero }

-- the same without such a number
abbrev pub icmp_message_failed : ℤ → IcmpMessageParsed
icmp_message_failed status = icmp_message_short status 0

-- the result of a parse for C without a look at the room for items: 0, the number of bytes that were taken and the
-- fields, or which error
abbrev pub icmp_message_told : ℕ → Result IcmpMessage IcmpMessageError → IcmpMessageParsed
icmp_message_told taken (Ok value) = record { status = pos 0; taken = taken; value = icmp_message_to_c value }
icmp_message_told taken (Err (Reader e)) = icmp_message_failed (pos 1)
icmp_message_told taken (Err NoEcho) = icmp_message_failed (pos 6)
icmp_message_told taken (Err WrongSum) = icmp_message_failed (pos 7)

-- the same for fields of which the checksum says this: first, a list has more items than there is room for
abbrev pub icmp_message_within : ℕ → ℕ → IcmpMessage → Result IcmpMessage IcmpMessageError → IcmpMessageParsed
icmp_message_within taken data_room value says = if nat_lt data_room (length value.data) then icmp_message_short (pos 5) (length value.data) else icmp_message_told taken says

-- the result of a parse for C, of a read that finds fields and a stored checksum
abbrev pub icmp_message_parsed : ℕ → ℕ → Result IcmpMessageStored IcmpMessageError → IcmpMessageParsed
icmp_message_parsed taken data_room (Ok it) = icmp_message_within taken data_room it.value (icmp_message_tested it)
icmp_message_parsed taken data_room (Err e) = icmp_message_told taken (Err e)

-- the same, of what the read left in slices
abbrev pub icmp_message_summed : ℕ → List ℕ → Result IcmpMessageFound IcmpMessageError → IcmpMessageParsed
icmp_message_summed taken data_items (Ok it) = if nat_lt (length data_items) it.data then icmp_message_short (pos 5) (it.data) else icmp_message_told taken (icmp_message_tested (icmp_message_filled it data_items))
icmp_message_summed taken data_items (Err e) = icmp_message_told taken (Err e)

-- the same for what the reads say of all bits: too few, or their result after the first n
abbrev pub icmp_message_answer : ℕ → Prefix (Result IcmpMessageStored IcmpMessageError) → IcmpMessageParsed
icmp_message_answer data_room Incomplete = icmp_message_failed (pos 1)
icmp_message_answer data_room (Done n (Ok x)) = icmp_message_parsed ((n + 7) / 8) data_room x
icmp_message_answer data_room (Done n (Err e)) = icmp_message_failed (pos 1)

-- A read whose lists are stored: `found` is what the reads say, and the slices hold the items of its lists.
pub record IcmpMessageRead {R : Type 0} (K : BitSource R) (data_bytes : ℕ) (old : R) (data_was : List ℕ)
    (result : Result IcmpMessageFound IcmpMessageError) (new : R) (data_now : List ℕ) : Type 0 where
  pub found : Result IcmpMessageStored IcmpMessageError
  pub reads : ReadsOwn K becomes_icmp_message (icmp_message_unsummed_decoder K.order data_bytes) old found new
  pub told : result ≡ result_map icmp_message_found found
  pub data_items : (it : IcmpMessageStored) → found ≡ Ok it → data_now ≡ stored it.value.data data_was

-- the bits of the fields of a struct of C, if it has fields
abbrev pub icmp_message_held : Option IcmpMessage → List Bool
icmp_message_held (Some value) = icmp_message_bits value
icmp_message_held None = []
