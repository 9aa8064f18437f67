-- A packet of EAP in a frame of IEEE 802.1X (802.1X-2010, section 11.3; RFC 3748, section 4).
use Rattle.network_messages.specs.declared.eapol_packet.EapolPacket.{EapolPacket}
use Rattle.network_messages.specs.declared.eapol_packet.EapolPacketError.{EapolPacketError}
use Rattle.network_messages.specs.declared.eapol_packet.EapolPacketError.TheVariants.{Reader, OtherType, NoEapCode, ShortLength, OtherLength}
use Rattle.network_messages.specs.declared.eapol_packet.EapCode.{EapCode}
use Rattle.network_messages.specs.declared.eapol_packet.EapCode.TheVariants.{Request, Response, Success, Failure}
use Rattle.bitstream_format.specs.Stated.{sized_bytes, stated_decoder, stored_size}
use Rattle.std.proofs.Common.{refl, true}
use Rattle.bitstream_format.specs.Format.{Own as OwnFormat}
use Rattle.bitstream_format.specs.Cases.{cases}
use Rattle.std.specs.Prelude.{◌≡◌, ◌^◌, ◌<◌, ◌+◌, ◌*◌, ◌++◌, ◌∷◌, [], ◌==◌, if◌then◌else◌, ℕ, Bool, List, Result, Ok, Err, length, nat_lt}
use Rattle.std.specs.List.{All}
use Rattle.bitstream_io.specs.Callers.{◌>>=◌, Decoder, Encoder, pure, Error, Order, High, and_then, word, unsigned_decoder, const_decoder, plain, unsigned, buffer, align, write_sequence, part_then}
use Rattle.bitstream_format.specs.Checks.{byte_count}
use Rattle.bitstream_format.specs.Summed.{lines_sum}

-- Made by `./format` from formats/eapol_packet.fields: edit that file and make this one anew.

-- an error of the reader is one of the type's
abbrev pub becomes_eapol_packet : Error → EapolPacketError → Type 0
becomes_eapol_packet error own = own ≡ Reader error

-- the case of a number
abbrev pub eap_code_of : ℕ → (Result EapCode EapolPacketError)
eap_code_of n = if n == 1 then Ok Request else if n == 2 then Ok Response else if n == 3 then Ok Success else if n == 4
    then Ok Failure else Err NoEapCode

-- the number of a case
abbrev pub eap_code_number : EapCode → ℕ
eap_code_number Request = 1
eap_code_number Response = 2
eap_code_number Success = 3
eap_code_number Failure = 4

-- the read of a case
abbrev pub eap_code_read : Order → Decoder (Result EapCode EapolPacketError)
eap_code_read o = and_then (unsigned_decoder o 8 8) (λ v. pure (eap_code_of v))

-- the number of each case fits its bits, and decodes to that case
pub eap_code_small : (it : EapCode) → nat_lt (eap_code_number it) (2 ^ 8) ≡ true
eap_code_small Request = refl
eap_code_small Response = refl
eap_code_small Success = refl
eap_code_small Failure = refl

pub eap_code_again : (it : EapCode) → eap_code_of (eap_code_number it) ≡ Ok it
eap_code_again Request = refl
eap_code_again Response = refl
eap_code_again Success = refl
eap_code_again Failure = refl

-- the cases, by their numbers
abbrev pub eap_code_cases : OwnFormat EapolPacketError EapCode
eap_code_cases = cases 8 8 refl eap_code_of eap_code_number eap_code_small eap_code_again

-- the reads of `data` by the number that states its size
abbrev pub data_stated : Order → ℕ → Decoder (Result (List ℕ) EapolPacketError)
data_stated o stored = stated_decoder 1 4 0 ShortLength sized_bytes o stored

-- the writes that the body_bytes covers, in order
abbrev pub body_bytes_writes : Order → EapolPacket → List Encoder
body_bytes_writes o value =
    unsigned o 8 8 (eap_code_number value.code)
    ∷ unsigned o 8 8 value.id
    ∷ unsigned o 64 16 (stored_size 1 4 0 (length value.data))
    ∷ buffer o value.data
    ∷ []

-- the number of bytes of these lines
abbrev pub body_bytes_sum : EapolPacket → ℕ
body_bytes_sum value = lines_sum byte_count High (body_bytes_writes High value)

-- the reads, in order, after 4 that may be refused
abbrev pub eapol_packet_decoder_4 : Order → ℕ → ℕ → EapCode → ℕ → ℕ → List ℕ → Decoder (Result EapolPacket
    EapolPacketError)
eapol_packet_decoder_4 o version stored_body_bytes code id data_bytes data_ = pure (Ok (record {
  version = version;
  code
      = code;
  id = id;
  «data» = data_;
}))

-- the reads, in order, after 3 that may be refused
abbrev pub eapol_packet_decoder_3 : Order → ℕ → ℕ → EapCode → ℕ → ℕ → List ℕ → Decoder (Result EapolPacket
    EapolPacketError)
eapol_packet_decoder_3 o version stored_body_bytes code id data_bytes data_ = if stored_body_bytes == body_bytes_sum
    (record { version = version; code = code; id = id; «data» = data_ }) then eapol_packet_decoder_4 o version
    stored_body_bytes code id data_bytes data_ else pure (Err OtherLength)

-- the reads, in order, after 2 that may be refused
abbrev pub eapol_packet_decoder_2 : Order → ℕ → ℕ → EapCode → Decoder (Result EapolPacket EapolPacketError)
eapol_packet_decoder_2 o version stored_body_bytes code = do
  id ← unsigned_decoder o 8 8
  data_bytes ← unsigned_decoder o 64 16
  and_then (data_stated o data_bytes) (part_then (λ data_. eapol_packet_decoder_3 o version stored_body_bytes code id
      data_bytes data_))

-- the reads, in order, after 1 that may be refused
abbrev pub eapol_packet_decoder_1 : Order → ℕ → Decoder (Result EapolPacket EapolPacketError)
eapol_packet_decoder_1 o version = do
  stored_body_bytes ← unsigned_decoder o 64 16
  and_then (eap_code_read o) (part_then (λ code. eapol_packet_decoder_2 o version stored_body_bytes code))

-- the reads, in order
abbrev pub eapol_packet_decoder : Order → Decoder (Result EapolPacket EapolPacketError)
eapol_packet_decoder o = do
  version ← unsigned_decoder o 8 8
  is_1 ← const_decoder o 8 0
  if is_1 then eapol_packet_decoder_1 o version else pure (Err OtherType)

-- the writes, in order
abbrev pub eapol_packet_writes : Order → EapolPacket → List Encoder
eapol_packet_writes o value =
    unsigned o 8 8 value.version
    ∷ plain (word o 8 0)
    ∷ unsigned o 64 16 (body_bytes_sum value)
    ∷ unsigned o 8 8 (eap_code_number value.code)
    ∷ unsigned o 8 8 value.id
    ∷ unsigned o 64 16 (stored_size 1 4 0 (length value.data))
    ∷ buffer o value.data
    ∷ []

-- each field fits its bits
pub record Fits (value : EapolPacket) : Type 0 where
  pub version : value.version < 2 ^ 8
  pub stored_body_bytes : body_bytes_sum value < 2 ^ 16
  pub id : value.id < 2 ^ 8
  pub data_bytes : stored_size 1 4 0 (length value.data) < 2 ^ 16
  pub data_ : All (λ b. b < 256) value.data

-- the number of bits
abbrev pub eapol_packet_size : Order → EapolPacket → ℕ
eapol_packet_size o value = 64 + 8 * length value.data

-- the bits of all fields, up to a whole byte
unfoldable pub eapol_packet_bits : EapolPacket → List Bool
eapol_packet_bits value = write_sequence (eapol_packet_writes High value ++ align ∷ []) 0
