-- The header of a CoAP message and its token (RFC 7252, section 3).
use Rattle.protocols.specs.declared.coap_header.CoapHeader.{CoapHeader}
use Rattle.protocols.specs.declared.coap_header.CoapError.{CoapError}
use Rattle.protocols.specs.declared.coap_header.CoapError.TheVariants.{Reader, OtherVersion}
use Rattle.protocols.specs.declared.coap_header.Message.{Message}
use Rattle.protocols.specs.declared.coap_header.Message.TheVariants.{Confirmable, NonConfirmable, Acknowledgement, Reset}
use Rattle.std.proofs.Common.{refl, true}
use Rattle.bitstream_format.specs.Format.{◌>>=◌, Plain as PlainFormat, Own as OwnFormat, Parts as FormatParts, format, named, field, const, ◌&◌, own_done}
use Rattle.bitstream_format.specs.Lists.{byte_list}
use Rattle.bitstream_format.specs.Cases.{cases}
use Rattle.std.specs.Prelude.{◌≡◌, ◌^◌, ◌<◌, ◌++◌, ◌∷◌, [], ◌==◌, if◌then◌else◌, ℕ, Bool, List, Result, Ok, length, nat_lt}
use Rattle.std.specs.List.{All}
use Rattle.bitstream_io.specs.Callers.{Decoder, Encoder, pure, Error, Order, High, and_then, unsigned_decoder, align, write_sequence}
use Rattle.bitstream_format.specs.Atoms as atom

-- Made by `./format` from formats/coap_header.fields: edit that file and make this one anew.

-- an error of the reader is one of the type's
abbrev pub becomes_coap_header : Error → CoapError → Type 0
becomes_coap_header error own = own ≡ Reader error

-- the case of a number
abbrev pub message_of : ℕ → Message
message_of n = if n == 0 then Confirmable else if n == 1 then NonConfirmable else if n == 2 then Acknowledgement else
    Reset

-- the number of a case
abbrev pub message_number : Message → ℕ
message_number Confirmable = 0
message_number NonConfirmable = 1
message_number Acknowledgement = 2
message_number Reset = 3

-- the read of a case
abbrev pub message_read : Order → Decoder Message
message_read o = and_then (unsigned_decoder o 8 2) (λ v. pure (message_of v))

-- the number of each case fits its bits, and decodes to that case
pub message_small : (it : Message) → nat_lt (message_number it) (2 ^ 2) ≡ true
message_small Confirmable = refl
message_small NonConfirmable = refl
message_small Acknowledgement = refl
message_small Reset = refl

pub message_again : (it : Message) → message_of (message_number it) ≡ it
message_again Confirmable = refl
message_again NonConfirmable = refl
message_again Acknowledgement = refl
message_again Reset = refl

-- the cases, by their numbers
abbrev pub message_cases : PlainFormat Message
message_cases = cases 8 2 refl message_of message_number message_small message_again

-- the lines, in order
abbrev pub coap_header_lines : FormatParts CoapHeader (Result CoapHeader CoapError) (λ s. Ok s)
coap_header_lines = do
  constant_0 ← const 2 1 refl OtherVersion
  kind ← field message_cases (λ s. s.kind)
  token_count ← field (atom.unsigned 64 4 refl) (λ s. length s.token)
  class ← field (atom.unsigned 8 3 refl) (λ s. s.class)
  detail ← field (atom.unsigned 8 5 refl) (λ s. s.detail)
  id ← field (atom.unsigned 16 16 refl) (λ s. s.id)
  token ← byte_list token_count (λ s. s.token)
  own_done (record { kind = kind; class = class; detail = detail; id = id; token = token })

-- the reads, in order
abbrev pub coap_header_decoder : Order → Decoder (Result CoapHeader CoapError)
coap_header_decoder o = coap_header_lines.read o

-- the writes, in order
abbrev pub coap_header_writes : Order → CoapHeader → List Encoder
coap_header_writes o value = coap_header_lines.write o value

-- each field fits its bits
pub record Fits (value : CoapHeader) : Type 0 where
  pub token_count : length value.token < 2 ^ 4
  pub class : value.class < 2 ^ 3
  pub detail : value.detail < 2 ^ 5
  pub id : value.id < 2 ^ 16
  pub token : All (λ b. b < 256) value.token

-- the number of bits
abbrev pub coap_header_size : Order → CoapHeader → ℕ
coap_header_size o value = coap_header_lines.size value

-- the format, with the facts that must fit by name
abbrev pub coap_header_format : OwnFormat CoapError CoapHeader
coap_header_format = named Fits (format coap_header_lines (λ s. (refl, refl {a = s})))
    (λ s fits. fits.token_count & fits.class & fits.detail & fits.id & fits.token)

-- the bits of all fields, up to a whole byte
unfoldable pub coap_header_bits : CoapHeader → List Bool
coap_header_bits value = write_sequence (coap_header_writes High value ++ align ∷ []) 0
