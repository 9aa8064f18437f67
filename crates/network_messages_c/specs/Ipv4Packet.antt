-- Made by `./format --c` from ../network_messages/formats/ipv4_packet.fields: edit that file and make this one anew.
-- A `Ipv4Packet` as C sees it.
use Rattle.network_messages_c.specs.Lists.{stored}
use Rattle.network_messages_c.specs.declared.ipv4_packet.Ipv4PacketFound.{Ipv4PacketFound}
use Rattle.network_messages_c.specs.declared.ipv4_packet.Ipv4PacketGiven.{Ipv4PacketGiven}
use Rattle.network_messages_c.specs.declared.ipv4_packet.Ipv4PacketC.{Ipv4PacketC}
use Rattle.network_messages_c.specs.declared.ipv4_packet.Ipv4PacketParsed.{Ipv4PacketParsed}
use Rattle.network_messages.specs.Ipv4Packet.{ipv4_packet_size, ipv4_packet_bits, becomes_ipv4_packet, sum16_sum, options_stated}
use Rattle.network_messages.specs.declared.ipv4_packet.Ipv4Packet.{Ipv4Packet}
use Rattle.network_messages.specs.declared.ipv4_packet.Ipv4PacketError.{Ipv4PacketError}
use Rattle.network_messages.specs.declared.ipv4_packet.Ipv4PacketError.TheVariants.{Reader, OtherVersion, ReservedSet, ShortHeader, WrongSum}
use Rattle.std.specs.Prelude.{◌≡◌, ◌+◌, ◌/◌, ◌∷◌, [], ◌==◌, if◌then◌else◌, ℕ, ℤ, Bool, not, List, Result, Ok, Err, Option, Some, None, length, take, pos, nat_lt}
use Rattle.bitstream_io.specs.Reads.{BitSource}
use Rattle.bitstream_io.specs.Codec.{Prefix, Incomplete, Done}
use Rattle.bitstream_io.specs.Callers.{◌>>=◌, Decoder, pure, Order, High, and_then, bit_decoder, unsigned_decoder, const_decoder, bytes_decoder, ReadsOwn, result_map, part_then}

-- the struct of C with these fields
abbrev pub ipv4_packet_to_c : Ipv4Packet → Ipv4PacketC
ipv4_packet_to_c value = record {
  service = value.service;
  length = value.length;
  id = value.id;
  keep_whole = if value.keep_whole then 1 else 0;
  more = if value.more then 1 else 0;
  offset = value.offset;
  ttl = value.ttl;
  protocol = value.protocol;
  source = value.source;
  target = value.target;
  options = length value.options;
}

-- the fields of a struct of C, or none if a number of C is no value of its field
abbrev pub ipv4_packet_from_c : Ipv4PacketC → List ℕ → Option Ipv4Packet
ipv4_packet_from_c c options_items = Some (record {
  service = c.service;
  length = c.length;
  id = c.id;
  keep_whole = not (c.keep_whole == 0);
  more = not (c.more == 0);
  offset = c.offset;
  ttl = c.ttl;
  protocol = c.protocol;
  source = c.source;
  target = c.target;
  options = options_items;
})

-- the struct of C after an error
abbrev pub ipv4_packet_zero : Ipv4PacketC
ipv4_packet_zero = record {
  service = 0;
  length = 0;
  id = 0;
  keep_whole = 0;
  more = 0;
  offset = 0;
  ttl = 0;
  protocol = 0;
  source = 0 ∷ 0 ∷ 0 ∷ 0 ∷ [];
  target = 0 ∷ 0 ∷ 0 ∷ 0 ∷ [];
  options = 0;
}

-- the fields that a value holds
abbrev pub ipv4_packet_of : Ipv4PacketGiven → Ipv4Packet
ipv4_packet_of value = record {
  service = value.service;
  length = value.length;
  id = value.id;
  keep_whole = value.keep_whole;
  more = value.more;
  offset = value.offset;
  ttl = value.ttl;
  protocol = value.protocol;
  source = value.source;
  target = value.target;
  options = value.options.now;
}

-- the number of bytes of fields
abbrev pub ipv4_packet_bytes : Ipv4Packet → ℕ
ipv4_packet_bytes value = (ipv4_packet_size High value + 7) / 8

-- the number of bytes of the fields of a struct of C, if it has fields
abbrev pub ipv4_packet_room : Option Ipv4Packet → ℕ
ipv4_packet_room (Some value) = ipv4_packet_bytes value
ipv4_packet_room None = 0

-- the fields, and the checksum that was stored with them
pub record Ipv4PacketStored : Type 0 where
  pub stored_sum16 : ℕ
  pub value : Ipv4Packet

-- the fields, if the stored checksum is theirs
abbrev pub ipv4_packet_tested : Ipv4PacketStored → Result Ipv4Packet Ipv4PacketError
ipv4_packet_tested it = if it.stored_sum16 == sum16_sum it.value then Ok it.value else Err WrongSum

-- the reads, in order, after 3 that may be refused
abbrev pub ipv4_packet_unsummed_decoder_3 : Order → ℕ → ℕ → ℕ → ℕ → Bool → Bool → ℕ → ℕ → ℕ → ℕ → List ℕ → List ℕ → List ℕ → Decoder (Result Ipv4PacketStored Ipv4PacketError)
ipv4_packet_unsummed_decoder_3 o options_bytes service length_ id keep_whole more_ offset ttl protocol stored_sum16 source target options = pure (Ok (record { stored_sum16 = stored_sum16; value = record { service = service; length = length_; id = id; keep_whole = keep_whole; more = more_; offset = offset; ttl = ttl; protocol = protocol; source = source; target = target; options = options } }))

-- the reads, in order, after 2 that may be refused
abbrev pub ipv4_packet_unsummed_decoder_2 : Order → ℕ → ℕ → ℕ → ℕ → Decoder (Result Ipv4PacketStored Ipv4PacketError)
ipv4_packet_unsummed_decoder_2 o options_bytes service length_ id = do
  keep_whole ← bit_decoder
  more_ ← bit_decoder
  offset ← unsigned_decoder o 16 13
  ttl ← unsigned_decoder o 8 8
  protocol ← unsigned_decoder o 8 8
  stored_sum16 ← unsigned_decoder o 64 16
  source ← bytes_decoder o 4
  target ← bytes_decoder o 4
  and_then (options_stated o options_bytes) (part_then (λ options. ipv4_packet_unsummed_decoder_3 o options_bytes service length_ id keep_whole more_ offset ttl protocol stored_sum16 source target options))

-- the reads, in order, after 1 that may be refused
abbrev pub ipv4_packet_unsummed_decoder_1 : Order → Decoder (Result Ipv4PacketStored Ipv4PacketError)
ipv4_packet_unsummed_decoder_1 o = do
  options_bytes ← unsigned_decoder o 64 4
  service ← unsigned_decoder o 8 8
  length_ ← unsigned_decoder o 16 16
  id ← unsigned_decoder o 16 16
  is_5 ← const_decoder o 1 0
  if is_5 then ipv4_packet_unsummed_decoder_2 o options_bytes service length_ id else pure (Err ReservedSet)

-- the reads, in order
abbrev pub ipv4_packet_unsummed_decoder : Order → Decoder (Result Ipv4PacketStored Ipv4PacketError)
ipv4_packet_unsummed_decoder o = do
  is_0 ← const_decoder o 4 4
  if is_0 then ipv4_packet_unsummed_decoder_1 o else pure (Err OtherVersion)

-- what a read found, of fields and a stored checksum
abbrev pub ipv4_packet_found : Ipv4PacketStored → Ipv4PacketFound
ipv4_packet_found it = record {
  stored_sum16 = it.stored_sum16;
  service = it.value.service;
  length = it.value.length;
  id = it.value.id;
  keep_whole = it.value.keep_whole;
  more = it.value.more;
  offset = it.value.offset;
  ttl = it.value.ttl;
  protocol = it.value.protocol;
  source = it.value.source;
  target = it.value.target;
  options = length it.value.options;
}

-- the fields and the stored checksum, whose lists are the first items of these
abbrev pub ipv4_packet_filled : Ipv4PacketFound → List ℕ → Ipv4PacketStored
ipv4_packet_filled it options_items = record {
  stored_sum16 = it.stored_sum16;
  value = record {
    service = it.service;
    length = it.length;
    id = it.id;
    keep_whole = it.keep_whole;
    more = it.more;
    offset = it.offset;
    ttl = it.ttl;
    protocol = it.protocol;
    source = it.source;
    target = it.target;
    options = take it.options options_items;
  };
}

-- the result of a parse that failed, with a number of items that there is no room for
abbrev pub ipv4_packet_short : ℤ → ℕ → Ipv4PacketParsed
ipv4_packet_short status items = record { status = status; taken = items; value = ipv4_packet_zero }

-- the same without such a number
abbrev pub ipv4_packet_failed : ℤ → Ipv4PacketParsed
ipv4_packet_failed status = ipv4_packet_short status 0

-- the result of a parse for C without a look at the room for items: 0, the number of bytes that were taken and the
-- fields, or which error
abbrev pub ipv4_packet_told : ℕ → Result Ipv4Packet Ipv4PacketError → Ipv4PacketParsed
ipv4_packet_told taken (Ok value) = record { status = pos 0; taken = taken; value = ipv4_packet_to_c value }
ipv4_packet_told taken (Err (Reader e)) = ipv4_packet_failed (pos 1)
ipv4_packet_told taken (Err OtherVersion) = ipv4_packet_failed (pos 6)
ipv4_packet_told taken (Err ReservedSet) = ipv4_packet_failed (pos 7)
ipv4_packet_told taken (Err ShortHeader) = ipv4_packet_failed (pos 8)
ipv4_packet_told taken (Err WrongSum) = ipv4_packet_failed (pos 9)

-- the same for fields of which the checksum says this: first, a list has more items than there is room for
abbrev pub ipv4_packet_within : ℕ → ℕ → Ipv4Packet → Result Ipv4Packet Ipv4PacketError → Ipv4PacketParsed
ipv4_packet_within taken options_room value says = if nat_lt options_room (length value.options) then ipv4_packet_short (pos 5) (length value.options) else ipv4_packet_told taken says

-- the result of a parse for C, of a read that finds fields and a stored checksum
abbrev pub ipv4_packet_parsed : ℕ → ℕ → Result Ipv4PacketStored Ipv4PacketError → Ipv4PacketParsed
ipv4_packet_parsed taken options_room (Ok it) = ipv4_packet_within taken options_room it.value (ipv4_packet_tested it)
ipv4_packet_parsed taken options_room (Err e) = ipv4_packet_told taken (Err e)

-- the same, of what the read left in slices
abbrev pub ipv4_packet_summed : ℕ → List ℕ → Result Ipv4PacketFound Ipv4PacketError → Ipv4PacketParsed
ipv4_packet_summed taken options_items (Ok it) = if nat_lt (length options_items) it.options then ipv4_packet_short (pos 5) (it.options) else ipv4_packet_told taken (ipv4_packet_tested (ipv4_packet_filled it options_items))
ipv4_packet_summed taken options_items (Err e) = ipv4_packet_told taken (Err e)

-- the same for what the reads say of all bits: too few, or their result after the first n
abbrev pub ipv4_packet_answer : ℕ → Prefix (Result Ipv4PacketStored Ipv4PacketError) → Ipv4PacketParsed
ipv4_packet_answer options_room Incomplete = ipv4_packet_failed (pos 1)
ipv4_packet_answer options_room (Done n (Ok x)) = ipv4_packet_parsed ((n + 7) / 8) options_room x
ipv4_packet_answer options_room (Done n (Err e)) = ipv4_packet_failed (pos 1)

-- A read whose lists are stored: `found` is what the reads say, and the slices hold the items of its lists.
pub record Ipv4PacketRead {R : Type 0} (K : BitSource R) (old : R) (options_was : List ℕ)
    (result : Result Ipv4PacketFound Ipv4PacketError) (new : R) (options_now : List ℕ) : Type 0 where
  pub found : Result Ipv4PacketStored Ipv4PacketError
  pub reads : ReadsOwn K becomes_ipv4_packet (ipv4_packet_unsummed_decoder K.order) old found new
  pub told : result ≡ result_map ipv4_packet_found found
  pub options_items : (it : Ipv4PacketStored) → found ≡ Ok it → options_now ≡ stored it.value.options options_was

-- the bits of the fields of a struct of C, if it has fields
abbrev pub ipv4_packet_held : Option Ipv4Packet → List Bool
ipv4_packet_held (Some value) = ipv4_packet_bits value
ipv4_packet_held None = []
