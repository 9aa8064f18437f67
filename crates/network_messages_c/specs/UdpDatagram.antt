-- Made by `./format --c` from ../network_messages/formats/udp_datagram.fields: edit that file and make this one anew.
-- A `UdpDatagram` as C sees it.
use Rattle.network_messages_c.specs.Lists.{stored}
use Rattle.network_messages_c.specs.declared.udp_datagram.UdpDatagramFound.{UdpDatagramFound}
use Rattle.network_messages_c.specs.declared.udp_datagram.UdpDatagramGiven.{UdpDatagramGiven}
use Rattle.network_messages_c.specs.declared.udp_datagram.UdpDatagramC.{UdpDatagramC}
use Rattle.network_messages_c.specs.declared.udp_datagram.UdpDatagramParsed.{UdpDatagramParsed}
use Rattle.network_messages_c.specs.Ipv4Pseudo.{ipv4_pseudo_to_c, ipv4_pseudo_from_c, ipv4_pseudo_zero}
use Rattle.network_messages.specs.UdpDatagram.{udp_datagram_size, udp_datagram_bits, becomes_udp_datagram, sum16_udp_sum, data_stated}
use Rattle.network_messages.specs.declared.udp_datagram.UdpDatagram.{UdpDatagram}
use Rattle.network_messages.specs.declared.udp_datagram.UdpDatagramError.{UdpDatagramError}
use Rattle.network_messages.specs.declared.udp_datagram.UdpDatagramError.TheVariants.{Reader, ShortLength, WrongSum}
use Rattle.network_messages.specs.declared.ipv4_pseudo.Ipv4Pseudo.{Ipv4Pseudo}
use Rattle.std.specs.Prelude.{◌≡◌, ◌+◌, ◌/◌, [], ◌==◌, if◌then◌else◌, ℕ, ℤ, Bool, List, Result, Ok, Err, Option, Some, None, length, take, pos, nat_lt}
use Rattle.bitstream_io.specs.Reads.{BitSource}
use Rattle.bitstream_io.specs.Codec.{Prefix, Incomplete, Done}
use Rattle.bitstream_io.specs.Callers.{◌>>=◌, Decoder, pure, Order, High, and_then, unsigned_decoder, ReadsOwn, result_map, part_then}

-- the struct of C with these fields
abbrev pub udp_datagram_to_c : UdpDatagram → UdpDatagramC
udp_datagram_to_c value = record {
  pseudo = ipv4_pseudo_to_c value.pseudo;
  source = value.source;
  target = value.target;
  «data» = length value.data;
}

-- the fields of a struct of C, of which some are made already
abbrev pub udp_datagram_made : UdpDatagramC → List ℕ → Option Ipv4Pseudo → Option UdpDatagram
udp_datagram_made c data_items (Some pseudo) = Some (record {
  pseudo = pseudo;
  source = c.source;
  target = c.target;
  «data» = data_items;
})
udp_datagram_made c data_items None = None

-- the fields of a struct of C, or none if a number of C is no value of its field
abbrev pub udp_datagram_from_c : UdpDatagramC → List ℕ → Option UdpDatagram
udp_datagram_from_c c data_items = udp_datagram_made c data_items (ipv4_pseudo_from_c c.pseudo)

-- the struct of C after an error
abbrev pub udp_datagram_zero : UdpDatagramC
udp_datagram_zero = record {
  pseudo = ipv4_pseudo_zero;
  source = 0;
  target = 0;
  «data» = 0;
}

-- the fields that a value holds
abbrev pub udp_datagram_of : UdpDatagramGiven → UdpDatagram
udp_datagram_of value = record {
  pseudo = value.pseudo;
  source = value.source;
  target = value.target;
  «data» = value.data.now;
}

-- the number of bytes of fields
abbrev pub udp_datagram_bytes : UdpDatagram → ℕ
udp_datagram_bytes value = (udp_datagram_size High value + 7) / 8

-- the number of bytes of the fields of a struct of C, if it has fields
abbrev pub udp_datagram_room : Option UdpDatagram → ℕ
udp_datagram_room (Some value) = udp_datagram_bytes value
udp_datagram_room None = 0

-- the fields, and the checksum that was stored with them
pub record UdpDatagramStored : Type 0 where
  pub stored_sum16_udp : ℕ
  pub value : UdpDatagram

-- the fields, if the stored checksum is theirs
abbrev pub udp_datagram_tested : UdpDatagramStored → Result UdpDatagram UdpDatagramError
udp_datagram_tested it = if it.stored_sum16_udp == sum16_udp_sum it.value then Ok it.value else Err WrongSum

-- the reads, in order, after 1 that may be refused
abbrev pub udp_datagram_unsummed_decoder_1 : Order → Ipv4Pseudo → ℕ → ℕ → ℕ → ℕ → List ℕ → Decoder (Result UdpDatagramStored UdpDatagramError)
udp_datagram_unsummed_decoder_1 o pseudo source target data_bytes stored_sum16_udp data_ = pure (Ok (record { stored_sum16_udp = stored_sum16_udp; value = record { pseudo = pseudo; source = source; target = target; «data» = data_ } }))

-- the reads, in order
abbrev pub udp_datagram_unsummed_decoder : Order → Ipv4Pseudo → Decoder (Result UdpDatagramStored UdpDatagramError)
udp_datagram_unsummed_decoder o pseudo = do
  source ← unsigned_decoder o 16 16
  target ← unsigned_decoder o 16 16
  data_bytes ← unsigned_decoder o 64 16
  stored_sum16_udp ← unsigned_decoder o 64 16
  and_then (data_stated o data_bytes) (part_then (λ data_. udp_datagram_unsummed_decoder_1 o pseudo source target data_bytes stored_sum16_udp data_))

-- what a read found, of fields and a stored checksum
abbrev pub udp_datagram_found : UdpDatagramStored → UdpDatagramFound
udp_datagram_found it = record {
  stored_sum16_udp = it.stored_sum16_udp;
  pseudo = it.value.pseudo;
  source = it.value.source;
  target = it.value.target;
  «data» = length it.value.data;
}

-- the fields and the stored checksum, whose lists are the first items of these
abbrev pub udp_datagram_filled : UdpDatagramFound → List ℕ → UdpDatagramStored
udp_datagram_filled it data_items = record {
  stored_sum16_udp = it.stored_sum16_udp;
  value = record {
    pseudo = it.pseudo;
    source = it.source;
    target = it.target;
    «data» = take it.data data_items;
  };
}

-- the result of a parse that failed, with a number of items that there is no room for
abbrev pub udp_datagram_short : ℤ → ℕ → UdpDatagramParsed
udp_datagram_short status items = record { status = status; taken = items; value = udp_datagram_zero }

-- the same without such a number
abbrev pub udp_datagram_failed : ℤ → UdpDatagramParsed
udp_datagram_failed status = udp_datagram_short status 0

-- the result of a parse for C without a look at the room for items: 0, the number of bytes that were taken and the
-- fields, or which error
abbrev pub udp_datagram_told : ℕ → Result UdpDatagram UdpDatagramError → UdpDatagramParsed
udp_datagram_told taken (Ok value) = record { status = pos 0; taken = taken; value = udp_datagram_to_c value }
udp_datagram_told taken (Err (Reader e)) = udp_datagram_failed (pos 1)
udp_datagram_told taken (Err ShortLength) = udp_datagram_failed (pos 6)
udp_datagram_told taken (Err WrongSum) = udp_datagram_failed (pos 7)

-- the same for fields of which the checksum says this: first, a list has more items than there is room for
abbrev pub udp_datagram_within : ℕ → ℕ → UdpDatagram → Result UdpDatagram UdpDatagramError → UdpDatagramParsed
udp_datagram_within taken data_room value says = if nat_lt data_room (length value.data) then udp_datagram_short (pos 5) (length value.data) else udp_datagram_told taken says

-- the result of a parse for C, of a read that finds fields and a stored checksum
abbrev pub udp_datagram_parsed : ℕ → ℕ → Result UdpDatagramStored UdpDatagramError → UdpDatagramParsed
udp_datagram_parsed taken data_room (Ok it) = udp_datagram_within taken data_room it.value (udp_datagram_tested it)
udp_datagram_parsed taken data_room (Err e) = udp_datagram_told taken (Err e)

-- the same, of what the read left in slices
abbrev pub udp_datagram_summed : ℕ → List ℕ → Result UdpDatagramFound UdpDatagramError → UdpDatagramParsed
udp_datagram_summed taken data_items (Ok it) = if nat_lt (length data_items) it.data then udp_datagram_short (pos 5) (it.data) else udp_datagram_told taken (udp_datagram_tested (udp_datagram_filled it data_items))
udp_datagram_summed taken data_items (Err e) = udp_datagram_told taken (Err e)

-- the same for what the reads say of all bits: too few, or their result after the first n
abbrev pub udp_datagram_answer : ℕ → Prefix (Result UdpDatagramStored UdpDatagramError) → UdpDatagramParsed
udp_datagram_answer data_room Incomplete = udp_datagram_failed (pos 1)
udp_datagram_answer data_room (Done n (Ok x)) = udp_datagram_parsed ((n + 7) / 8) data_room x
udp_datagram_answer data_room (Done n (Err e)) = udp_datagram_failed (pos 1)

-- A read whose lists are stored: `found` is what the reads say, and the slices hold the items of its lists.
pub record UdpDatagramRead {R : Type 0} (K : BitSource R) (pseudo : Ipv4Pseudo) (old : R) (data_was : List ℕ)
    (result : Result UdpDatagramFound UdpDatagramError) (new : R) (data_now : List ℕ) : Type 0 where
  pub found : Result UdpDatagramStored UdpDatagramError
  pub reads : ReadsOwn K becomes_udp_datagram (udp_datagram_unsummed_decoder K.order pseudo) old found new
  pub told : result ≡ result_map udp_datagram_found found
  pub data_items : (it : UdpDatagramStored) → found ≡ Ok it → data_now ≡ stored it.value.data data_was

-- the bits of the fields of a struct of C, if it has fields
abbrev pub udp_datagram_held : Option UdpDatagram → List Bool
udp_datagram_held (Some value) = udp_datagram_bits value
udp_datagram_held None = []
