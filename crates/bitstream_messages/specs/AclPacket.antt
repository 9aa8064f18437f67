-- A packet of Bluetooth that holds a whole frame of L2CAP (Core 5.4, volume 4, part E, section 5.4.2; volume 3, part A,
-- section 3.1).
use Rattle.bitstream_messages.specs.declared.acl_packet.AclPacket.{AclPacket}
use Rattle.bitstream_messages.specs.declared.acl_packet.AclPacketError.{AclPacketError}
use Rattle.bitstream_messages.specs.declared.acl_packet.AclPacketError.TheVariants.{Reader, OtherLength}
use Rattle.std.specs.Prelude.{◌≡◌, ◌^◌, ◌<◌, ◌+◌, ◌*◌, ◌++◌, ◌∷◌, [], ◌==◌, if◌then◌else◌, ℕ, Bool, List, Result, Ok, Err, length}
use Rattle.std.specs.List.{All}
use Rattle.bitstream_io.specs.Callers.{◌>>=◌, Decoder, Encoder, pure, Error, Order, Low, unsigned_decoder, vec_decoder, unsigned, buffer, align, write_sequence}
use Rattle.bitstream_format.specs.Checks.{byte_count}
use Rattle.bitstream_format.specs.Summed.{lines_sum}
use Rattle.bitstream_format.specs.Stated.{stored_size}

-- Made by `./format` from formats/acl_packet.fields: edit that file and make this one anew.

-- an error of the reader is one of the type's
abbrev pub becomes_acl_packet : Error → AclPacketError → Type 0
becomes_acl_packet error own = own ≡ Reader error

-- the writes that the frame_bytes covers, in order
abbrev pub frame_bytes_writes : Order → AclPacket → List Encoder
frame_bytes_writes o value =
    unsigned o 16 16 value.channel
    ∷ buffer o value.payload
    ∷ []

-- the number of bytes of these lines
abbrev pub frame_bytes_sum : AclPacket → ℕ
frame_bytes_sum value = lines_sum byte_count Low (frame_bytes_writes Low value)

-- the number that states these bytes, in units of 1
abbrev pub frame_number : AclPacket → ℕ
frame_number value = stored_size 1 2 0 (frame_bytes_sum value)

-- the reads, in order, after 1 that may be refused
abbrev pub acl_packet_decoder_1 : Order → ℕ → ℕ → ℕ → ℕ → ℕ → ℕ → List ℕ → Decoder (Result AclPacket AclPacketError)
acl_packet_decoder_1 o handle boundary broadcast stored_frame_bytes payload_bytes channel payload = pure (Ok (record {
  handle = handle;
  boundary = boundary;
  broadcast = broadcast;
  channel = channel;
  payload = payload;
}))

-- the reads, in order
abbrev pub acl_packet_decoder : Order → Decoder (Result AclPacket AclPacketError)
acl_packet_decoder o = do
  handle ← unsigned_decoder o 16 12
  boundary ← unsigned_decoder o 8 2
  broadcast ← unsigned_decoder o 8 2
  stored_frame_bytes ← unsigned_decoder o 64 16
  payload_bytes ← unsigned_decoder o 64 16
  channel ← unsigned_decoder o 16 16
  payload ← vec_decoder o payload_bytes
  if stored_frame_bytes == frame_number (record {
    handle = handle;
    boundary = boundary;
    broadcast = broadcast;
    channel =
        channel;
    payload = payload;
  }) then acl_packet_decoder_1 o handle boundary broadcast stored_frame_bytes
      payload_bytes channel payload else pure (Err OtherLength)

-- the writes, in order
abbrev pub acl_packet_writes : Order → AclPacket → List Encoder
acl_packet_writes o value =
    unsigned o 16 12 value.handle
    ∷ unsigned o 8 2 value.boundary
    ∷ unsigned o 8 2 value.broadcast
    ∷ unsigned o 64 16 (frame_number value)
    ∷ unsigned o 64 16 (length value.payload)
    ∷ unsigned o 16 16 value.channel
    ∷ buffer o value.payload
    ∷ []

-- each field fits its bits
pub record Fits (value : AclPacket) : Type 0 where
  pub handle : value.handle < 2 ^ 12
  pub boundary : value.boundary < 2 ^ 2
  pub broadcast : value.broadcast < 2 ^ 2
  pub stored_frame_bytes : frame_number value < 2 ^ 16
  pub payload_bytes : length value.payload < 2 ^ 16
  pub channel : value.channel < 2 ^ 16
  pub payload : All (λ b. b < 256) value.payload

-- the number of bits
abbrev pub acl_packet_size : Order → AclPacket → ℕ
acl_packet_size o value = 64 + 8 * length value.payload

-- the bits of all fields, up to a whole byte
unfoldable pub acl_packet_bits : AclPacket → List Bool
acl_packet_bits value = write_sequence (acl_packet_writes Low value ++ align ∷ []) 0
