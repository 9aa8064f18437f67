-- The header of an IPv4 packet with its options and its checksum (RFC 791, section 3.1).
use Rattle.network_messages.specs.declared.ipv4_packet.Ipv4Packet.{Ipv4Packet}
use Rattle.network_messages.specs.declared.ipv4_packet.Ipv4PacketError.{Ipv4PacketError}
use Rattle.network_messages.specs.declared.ipv4_packet.Ipv4PacketError.TheVariants.{Reader, OtherVersion, ReservedSet, ShortHeader, WrongSum}
use Rattle.bitstream_format.specs.Stated.{sized_bytes, stated_decoder, stored_size}
use Rattle.std.specs.Prelude.{◌≡◌, ◌^◌, ◌<◌, ◌+◌, ◌*◌, ◌++◌, ◌∷◌, [], ◌==◌, if◌then◌else◌, ℕ, Bool, List, Result, Ok, Err, length}
use Rattle.std.specs.List.{All}
use Rattle.bitstream_io.specs.Callers.{◌>>=◌, Decoder, Encoder, pure, Error, Order, High, and_then, word, bit_decoder, unsigned_decoder, const_decoder, bytes_decoder, plain, bit, unsigned, buffer, zeros, align, write_sequence, part_then}
use Rattle.bitstream_format.specs.Checks.{sum16}
use Rattle.bitstream_format.specs.Summed.{lines_sum}

-- Made by `./format` from formats/ipv4_packet.fields: edit that file and make this one anew.

-- an error of the reader is one of the type's
abbrev pub becomes_ipv4_packet : Error → Ipv4PacketError → Type 0
becomes_ipv4_packet error own = own ≡ Reader error

-- the reads of `options` by the number that states its size
abbrev pub options_stated : Order → ℕ → Decoder (Result (List ℕ) Ipv4PacketError)
options_stated o stored = stated_decoder 4 20 0 ShortHeader sized_bytes o stored

-- the writes that the sum16 covers, in order
abbrev pub sum16_writes : Order → Ipv4Packet → List Encoder
sum16_writes o value =
    plain (word o 4 4)
    ∷ unsigned o 64 4 (stored_size 4 20 0 (length value.options))
    ∷ unsigned o 8 8 value.service
    ∷ unsigned o 16 16 value.length
    ∷ unsigned o 16 16 value.id
    ∷ plain (word o 1 0)
    ∷ bit value.keep_whole
    ∷ bit value.more
    ∷ unsigned o 16 13 value.offset
    ∷ unsigned o 8 8 value.ttl
    ∷ unsigned o 8 8 value.protocol
    ∷ zeros 16
    ∷ buffer o value.source
    ∷ buffer o value.target
    ∷ buffer o value.options
    ∷ []

-- the sum16 of these lines
abbrev pub sum16_sum : Ipv4Packet → ℕ
sum16_sum value = lines_sum sum16 High (sum16_writes High value)

-- the reads, in order, after 4 that may be refused
abbrev pub ipv4_packet_decoder_4 : Order → ℕ → ℕ → ℕ → ℕ → Bool → Bool → ℕ → ℕ → ℕ → ℕ → List ℕ → List ℕ → List ℕ →
    Decoder (Result Ipv4Packet Ipv4PacketError)
ipv4_packet_decoder_4 o options_bytes service length_ id keep_whole more_ offset ttl protocol stored_sum16 source target
    options = pure (Ok (record {
      service = service;
      length = length_;
      id = id;
      keep_whole = keep_whole;
      more = more_;
      offset = offset;
      ttl = ttl;
      protocol = protocol;
      source = source;
      target = target;
      options = options;
    }))

-- the reads, in order, after 3 that may be refused
abbrev pub ipv4_packet_decoder_3 : Order → ℕ → ℕ → ℕ → ℕ → Bool → Bool → ℕ → ℕ → ℕ → ℕ → List ℕ → List ℕ → List ℕ →
    Decoder (Result Ipv4Packet Ipv4PacketError)
ipv4_packet_decoder_3 o options_bytes service length_ id keep_whole more_ offset ttl protocol stored_sum16 source target
    options = if stored_sum16 == sum16_sum (record {
      service = service;
      length = length_;
      id = id;
      keep_whole =
          keep_whole;
      more = more_;
      offset = offset;
      ttl = ttl;
      protocol = protocol;
      source = source;
      target = target;
      options
          = options;
    }) then ipv4_packet_decoder_4 o options_bytes service length_ id keep_whole more_ offset ttl protocol
    stored_sum16 source target options else pure (Err WrongSum)

-- the reads, in order, after 2 that may be refused
abbrev pub ipv4_packet_decoder_2 : Order → ℕ → ℕ → ℕ → ℕ → Decoder (Result Ipv4Packet Ipv4PacketError)
ipv4_packet_decoder_2 o options_bytes service length_ id = do
  keep_whole ← bit_decoder
  more_ ← bit_decoder
  offset ← unsigned_decoder o 16 13
  ttl ← unsigned_decoder o 8 8
  protocol ← unsigned_decoder o 8 8
  stored_sum16 ← unsigned_decoder o 64 16
  source ← bytes_decoder o 4
  target ← bytes_decoder o 4
  and_then (options_stated o options_bytes) (part_then (λ options. ipv4_packet_decoder_3 o options_bytes service length_
      id keep_whole more_ offset ttl protocol stored_sum16 source target options))

-- the reads, in order, after 1 that may be refused
abbrev pub ipv4_packet_decoder_1 : Order → Decoder (Result Ipv4Packet Ipv4PacketError)
ipv4_packet_decoder_1 o = do
  options_bytes ← unsigned_decoder o 64 4
  service ← unsigned_decoder o 8 8
  length_ ← unsigned_decoder o 16 16
  id ← unsigned_decoder o 16 16
  is_5 ← const_decoder o 1 0
  if is_5 then ipv4_packet_decoder_2 o options_bytes service length_ id else pure (Err ReservedSet)

-- the reads, in order
abbrev pub ipv4_packet_decoder : Order → Decoder (Result Ipv4Packet Ipv4PacketError)
ipv4_packet_decoder o = do
  is_0 ← const_decoder o 4 4
  if is_0 then ipv4_packet_decoder_1 o else pure (Err OtherVersion)

-- the writes, in order
abbrev pub ipv4_packet_writes : Order → Ipv4Packet → List Encoder
ipv4_packet_writes o value =
    plain (word o 4 4)
    ∷ unsigned o 64 4 (stored_size 4 20 0 (length value.options))
    ∷ unsigned o 8 8 value.service
    ∷ unsigned o 16 16 value.length
    ∷ unsigned o 16 16 value.id
    ∷ plain (word o 1 0)
    ∷ bit value.keep_whole
    ∷ bit value.more
    ∷ unsigned o 16 13 value.offset
    ∷ unsigned o 8 8 value.ttl
    ∷ unsigned o 8 8 value.protocol
    ∷ unsigned o 64 16 (sum16_sum value)
    ∷ buffer o value.source
    ∷ buffer o value.target
    ∷ buffer o value.options
    ∷ []

-- each field fits its bits
pub record Fits (value : Ipv4Packet) : Type 0 where
  pub options_bytes : stored_size 4 20 0 (length value.options) < 2 ^ 4
  pub service : value.service < 2 ^ 8
  pub length_ : value.length < 2 ^ 16
  pub id : value.id < 2 ^ 16
  pub offset : value.offset < 2 ^ 13
  pub ttl : value.ttl < 2 ^ 8
  pub protocol : value.protocol < 2 ^ 8
  pub source_count : length value.source ≡ 4
  pub source : All (λ b. b < 256) value.source
  pub target_count : length value.target ≡ 4
  pub target : All (λ b. b < 256) value.target
  pub options : All (λ b. b < 256) value.options

-- the number of bits
abbrev pub ipv4_packet_size : Order → Ipv4Packet → ℕ
ipv4_packet_size o value = 160 + 8 * length value.options

-- the bits of all fields, up to a whole byte
unfoldable pub ipv4_packet_bits : Ipv4Packet → List Bool
ipv4_packet_bits value = write_sequence (ipv4_packet_writes High value ++ align ∷ []) 0
