-- A TFTP read or write request (RFC 1350, section 5).
use Rattle.network_messages.specs.declared.tftp_request.TftpRequest.{TftpRequest}
use Rattle.network_messages.specs.declared.tftp_request.TftpRequestError.{TftpRequestError}
use Rattle.network_messages.specs.declared.tftp_request.TftpRequestError.TheVariants.{Reader, NoRequest}
use Rattle.network_messages.specs.declared.tftp_request.Request.{Request}
use Rattle.network_messages.specs.declared.tftp_request.Request.TheVariants.{Read, Write}
use Rattle.std.proofs.Common.{refl, true}
use Rattle.bitstream_format.specs.Format.{◌>>=◌, Own as OwnFormat, Parts as FormatParts, format, named, field, own_field, ◌&◌, own_done}
use Rattle.bitstream_format.specs.Cases.{cases}
use Rattle.std.specs.Prelude.{◌≡◌, ◌^◌, ◌<◌, ◌++◌, ◌∷◌, [], ◌==◌, if◌then◌else◌, ℕ, Bool, List, Result, Ok, Err, length, nat_lt}
use Rattle.bitstream_io.specs.Callers.{Decoder, Encoder, pure, Error, Order, High, and_then, unsigned_decoder, align, write_sequence}
use Rattle.bitstream_format.specs.Until.{IsUnended}
use Rattle.bitstream_format.specs.Atoms as atom

-- Made by `./format` from formats/tftp_request.fields: edit that file and make this one anew.

-- an error of the reader is one of the type's
abbrev pub becomes_tftp_request : Error → TftpRequestError → Type 0
becomes_tftp_request error own = own ≡ Reader error

-- the case of a number
abbrev pub request_of : ℕ → (Result Request TftpRequestError)
request_of n = if n == 1 then Ok Read else if n == 2 then Ok Write else Err NoRequest

-- the number of a case
abbrev pub request_number : Request → ℕ
request_number Read = 1
request_number Write = 2

-- the read of a case
abbrev pub request_read : Order → Decoder (Result Request TftpRequestError)
request_read o = and_then (unsigned_decoder o 16 16) (λ v. pure (request_of v))

-- the number of each case fits its bits, and decodes to that case
pub request_small : (it : Request) → nat_lt (request_number it) (2 ^ 16) ≡ true
request_small Read = refl
request_small Write = refl

pub request_again : (it : Request) → request_of (request_number it) ≡ Ok it
request_again Read = refl
request_again Write = refl

-- the cases, by their numbers
abbrev pub request_cases : OwnFormat TftpRequestError Request
request_cases = cases 16 16 refl request_of request_number request_small request_again

-- the lines, in order
abbrev pub tftp_request_lines : FormatParts TftpRequest (Result TftpRequest TftpRequestError) (λ s. Ok s)
tftp_request_lines = do
  opcode ← own_field request_cases (λ s. s.opcode)
  name ← field (atom.until 0 refl) (λ s. s.name)
  mode ← field (atom.until 0 refl) (λ s. s.mode)
  own_done (record { opcode = opcode; name = name; mode = mode })

-- the reads, in order
abbrev pub tftp_request_decoder : Order → Decoder (Result TftpRequest TftpRequestError)
tftp_request_decoder o = tftp_request_lines.read o

-- the writes, in order
abbrev pub tftp_request_writes : Order → TftpRequest → List Encoder
tftp_request_writes o value = tftp_request_lines.write o value

-- each field fits its bits
pub record Fits (value : TftpRequest) : Type 0 where
  pub name : IsUnended 0 value.name
  pub name_most : length value.name < 2 ^ 32
  pub mode : IsUnended 0 value.mode
  pub mode_most : length value.mode < 2 ^ 32

-- the number of bits
abbrev pub tftp_request_size : Order → TftpRequest → ℕ
tftp_request_size o value = tftp_request_lines.size value

-- the format, with the facts that must fit by name
abbrev pub tftp_request_format : OwnFormat TftpRequestError TftpRequest
tftp_request_format = named Fits (format tftp_request_lines (λ s. refl {a = s}))
    (λ s fits. fits.name & fits.name_most & fits.mode & fits.mode_most)

-- the bits of all fields, up to a whole byte
unfoldable pub tftp_request_bits : TftpRequest → List Bool
tftp_request_bits value = write_sequence (tftp_request_writes High value ++ align ∷ []) 0
