-- An echo or an echo reply of ICMP, with its checksum (RFC 792).
use Rattle.network_messages.specs.declared.icmp_message.IcmpMessage.{IcmpMessage}
use Rattle.network_messages.specs.declared.icmp_message.IcmpMessageError.{IcmpMessageError}
use Rattle.network_messages.specs.declared.icmp_message.IcmpMessageError.TheVariants.{Reader, NoEcho, WrongSum}
use Rattle.network_messages.specs.declared.icmp_message.Echo.{Echo}
use Rattle.network_messages.specs.declared.icmp_message.Echo.TheVariants.{Reply, Request}
use Rattle.std.proofs.Common.{refl, true}
use Rattle.bitstream_format.specs.Format.{Own as OwnFormat}
use Rattle.bitstream_format.specs.Cases.{cases}
use Rattle.std.specs.Prelude.{◌≡◌, ◌^◌, ◌<◌, ◌+◌, ◌*◌, ◌++◌, ◌∷◌, [], ◌==◌, if◌then◌else◌, ℕ, Bool, List, Result, Ok, Err, length, nat_lt}
use Rattle.std.specs.List.{All}
use Rattle.bitstream_io.specs.Callers.{◌>>=◌, Decoder, Encoder, pure, Error, Order, High, and_then, unsigned_decoder, vec_decoder, unsigned, buffer, align, write_sequence, part_then}
use Rattle.bitstream_format.specs.Checks.{bytes1, bytes2, sum16}

-- Made by `./format` from formats/icmp_message.fields: edit that file and make this one anew.

-- an error of the reader is one of the type's
abbrev pub becomes_icmp_message : Error → IcmpMessageError → Type 0
becomes_icmp_message error own = own ≡ Reader error

-- the case of a number
abbrev pub echo_of : ℕ → (Result Echo IcmpMessageError)
echo_of n = if n == 0 then Ok Reply else if n == 8 then Ok Request else Err NoEcho

-- the number of a case
abbrev pub echo_number : Echo → ℕ
echo_number Reply = 0
echo_number Request = 8

-- the read of a case
abbrev pub echo_read : Order → Decoder (Result Echo IcmpMessageError)
echo_read o = and_then (unsigned_decoder o 8 8) (λ v. pure (echo_of v))

-- the number of each case fits its bits, and decodes to that case
pub echo_small : (it : Echo) → nat_lt (echo_number it) (2 ^ 8) ≡ true
echo_small Reply = refl
echo_small Request = refl

pub echo_again : (it : Echo) → echo_of (echo_number it) ≡ Ok it
echo_again Reply = refl
echo_again Request = refl

-- the cases, by their numbers
abbrev pub echo_cases : OwnFormat IcmpMessageError Echo
echo_cases = cases 8 8 refl echo_of echo_number echo_small echo_again

-- the reads, in order, after 2 that may be refused
abbrev pub icmp_message_decoder_2 : Order → ℕ → Echo → ℕ → ℕ → ℕ → ℕ → List ℕ → Decoder (Result IcmpMessage
    IcmpMessageError)
icmp_message_decoder_2 o data_bytes kind code stored_sum16 identifier sequence data_ = pure (Ok (record {
  kind = kind;
  code = code;
  identifier = identifier;
  sequence = sequence;
  «data» = data_;
}))

-- the reads, in order, after 1 that may be refused
abbrev pub icmp_message_decoder_1 : Order → ℕ → Echo → Decoder (Result IcmpMessage IcmpMessageError)
icmp_message_decoder_1 o data_bytes kind = do
  code ← unsigned_decoder o 8 8
  stored_sum16 ← unsigned_decoder o 16 16
  identifier ← unsigned_decoder o 16 16
  sequence ← unsigned_decoder o 16 16
  data_ ← vec_decoder o data_bytes
  if stored_sum16 == sum16 (bytes1 (echo_number kind) ++ bytes1 code ++ bytes2 identifier ++ bytes2 sequence ++ data_)
      then icmp_message_decoder_2 o data_bytes kind code stored_sum16 identifier sequence data_ else pure (Err WrongSum)

-- the reads, in order
abbrev pub icmp_message_decoder : Order → ℕ → Decoder (Result IcmpMessage IcmpMessageError)
icmp_message_decoder o data_bytes = and_then (echo_read o) (part_then (λ kind. icmp_message_decoder_1 o data_bytes
    kind))

-- the writes, in order
abbrev pub icmp_message_writes : Order → IcmpMessage → List Encoder
icmp_message_writes o value =
    unsigned o 8 8 (echo_number value.kind)
    ∷ unsigned o 8 8 value.code
    ∷ unsigned o 16 16 (sum16 (bytes1 (echo_number value.kind) ++ bytes1 value.code ++ bytes2 value.identifier ++ bytes2
    value.sequence ++ value.data))
    ∷ unsigned o 16 16 value.identifier
    ∷ unsigned o 16 16 value.sequence
    ∷ buffer o value.data
    ∷ []

-- each field fits its bits
pub record Fits (value : IcmpMessage) : Type 0 where
  pub code : value.code < 2 ^ 8
  pub identifier : value.identifier < 2 ^ 16
  pub sequence : value.sequence < 2 ^ 16
  pub data_ : All (λ b. b < 256) value.data

-- the number of bits
abbrev pub icmp_message_size : Order → IcmpMessage → ℕ
icmp_message_size o value = 64 + 8 * length value.data

-- the bits of all fields, up to a whole byte
unfoldable pub icmp_message_bits : IcmpMessage → List Bool
icmp_message_bits value = write_sequence (icmp_message_writes High value ++ align ∷ []) 0
