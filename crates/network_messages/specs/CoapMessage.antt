-- A message of CoAP with its options as bytes (RFC 7252, section 3).
use Rattle.network_messages.specs.declared.coap_message.CoapMessage.{CoapMessage}
use Rattle.network_messages.specs.declared.coap_message.CoapMessageError.{CoapMessageError}
use Rattle.network_messages.specs.declared.coap_message.CoapMessageError.TheVariants.{Reader, OtherVersion, LongToken}
use Rattle.network_messages.specs.declared.coap_message.Message.{Message}
use Rattle.network_messages.specs.declared.coap_message.Message.TheVariants.{Confirmable, NonConfirmable, Acknowledgement, Reset}
use Rattle.std.proofs.Common.{refl, true, arith}
use Rattle.bitstream_format.specs.Format.{◌>>=◌, Plain as PlainFormat, Own as OwnFormat, Parts as FormatParts, format, named, field, const, ◌&◌, own_done}
use Rattle.bitstream_format.specs.Lists.{byte_list}
use Rattle.bitstream_format.specs.Cases.{cases}
use Rattle.bitstream_format.specs.Measured.{vec}
use Rattle.bitstream_format.specs.Bounded.{own_limited}
use Rattle.std.specs.Prelude.{◌≡◌, ◌^◌, ◌<◌, ◌≤◌, ◌+◌, ◌-◌, ◌++◌, ◌∷◌, [], ◌==◌, if◌then◌else◌, ℕ, Bool, List, Result, Ok, length, nat_lt}
use Rattle.std.specs.List.{All}
use Rattle.bitstream_io.specs.Callers.{Decoder, Encoder, pure, Error, Order, High, and_then, unsigned_decoder, align, write_sequence}
use Rattle.bitstream_format.specs.Atoms as atom

-- Made by `./format` from formats/coap_message.fields: edit that file and make this one anew.

-- an error of the reader is one of the type's
abbrev pub becomes_coap_message : Error → CoapMessageError → Type 0
becomes_coap_message error own = own ≡ Reader error

-- the case of a number
abbrev pub message_of : ℕ → Message
message_of n = if n == 0 then Confirmable else if n == 1 then NonConfirmable else if n == 2 then Acknowledgement else
    Reset

-- the number of a case
abbrev pub message_number : Message → ℕ
message_number Confirmable = 0
message_number NonConfirmable = 1
message_number Acknowledgement = 2
message_number Reset = 3

-- the read of a case
abbrev pub message_read : Order → Decoder Message
message_read o = and_then (unsigned_decoder o 8 2) (λ v. pure (message_of v))

-- the number of each case fits its bits, and decodes to that case
pub message_small : (it : Message) → nat_lt (message_number it) (2 ^ 2) ≡ true
message_small Confirmable = refl
message_small NonConfirmable = refl
message_small Acknowledgement = refl
message_small Reset = refl

pub message_again : (it : Message) → message_of (message_number it) ≡ it
message_again Confirmable = refl
message_again NonConfirmable = refl
message_again Acknowledgement = refl
message_again Reset = refl

-- the cases, by their numbers
abbrev pub message_cases : PlainFormat Message
message_cases = cases 8 2 refl message_of message_number message_small message_again

-- the lines, in order
abbrev pub coap_message_lines : ℕ → FormatParts CoapMessage (Result CoapMessage CoapMessageError) (λ s. Ok s)
coap_message_lines options_bytes = do
  constant_0 ← const 2 1 refl OtherVersion
  kind ← field message_cases (λ s. s.kind)
  token_count ← own_limited 8 LongToken (field (atom.unsigned 64 4 refl) (λ s. length s.token))
  class ← field (atom.unsigned 8 3 refl) (λ s. s.class)
  detail ← field (atom.unsigned 8 5 refl) (λ s. s.detail)
  id ← field (atom.unsigned 16 16 refl) (λ s. s.id)
  token ← byte_list token_count (λ s. s.token)
  options ← field (vec (options_bytes - length token)) (λ s. s.options)
  own_done (record { kind = kind; class = class; detail = detail; id = id; token = token; options = options })

-- the reads, in order
abbrev pub coap_message_decoder : Order → ℕ → Decoder (Result CoapMessage CoapMessageError)
coap_message_decoder o options_bytes = (coap_message_lines options_bytes).read o

-- the writes, in order
abbrev pub coap_message_writes : Order → CoapMessage → List Encoder
coap_message_writes o value = (coap_message_lines (length value.token + length value.options)).write o value

-- each field fits its bits
pub record Fits (value : CoapMessage) : Type 0 where
  pub token_count : length value.token < 2 ^ 4
  pub token_count_most : length value.token ≤ 8
  pub class : value.class < 2 ^ 3
  pub detail : value.detail < 2 ^ 5
  pub id : value.id < 2 ^ 16
  pub token : All (λ b. b < 256) value.token
  pub options : All (λ b. b < 256) value.options

-- the number of bits
abbrev pub coap_message_size : Order → CoapMessage → ℕ
coap_message_size o value = (coap_message_lines (length value.token + length value.options)).size value

-- the format, with the facts that must fit by name
abbrev pub coap_message_format : ℕ → OwnFormat CoapMessageError CoapMessage
coap_message_format options_bytes = named (λ s. Fits s × (length s.token + length s.options ≡ options_bytes)) (format
    (coap_message_lines options_bytes) (λ s. (refl, refl {a = s})))
    (λ s fits. fits.0.token_count & fits.0.token_count_most & fits.0.class & fits.0.detail & fits.0.id & fits.0.token &
    fits.0.options & let sum = fits.1 in omega (arith, sum))

-- the bits of all fields, up to a whole byte
unfoldable pub coap_message_bits : CoapMessage → List Bool
coap_message_bits value = write_sequence (coap_message_writes High value ++ align ∷ []) 0
