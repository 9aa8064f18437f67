-- The header of an echo message of ICMP or of its reply (RFC 792, page 14).
use Rattle.protocols.specs.declared.icmp_echo.IcmpEcho.{IcmpEcho}
use Rattle.protocols.specs.declared.icmp_echo.IcmpEchoError.{IcmpEchoError}
use Rattle.protocols.specs.declared.icmp_echo.IcmpEchoError.TheVariants.{Reader, NoEchoKind, OtherCode}
use Rattle.protocols.specs.declared.icmp_echo.EchoKind.{EchoKind}
use Rattle.protocols.specs.declared.icmp_echo.EchoKind.TheVariants.{Request, Reply}
use Rattle.std.proofs.Common.{refl, true}
use Rattle.bitstream_format.specs.Format.{◌>>=◌, Own as OwnFormat, Parts as FormatParts, format, renamed, field, own_field, const, ◌&◌, own_done}
use Rattle.bitstream_format.specs.Cases.{cases}
use Rattle.std.specs.Prelude.{◌≡◌, ◌^◌, ◌<◌, ◌++◌, ◌∷◌, [], ◌==◌, if◌then◌else◌, ℕ, Bool, List, Result, Ok, Err, take, drop, nat_lt}
use Rattle.bitstream_io.specs.Callers.{Decoder, Encoder, pure, Error, Order, High, number, and_then, unsigned_decoder, align, write_sequence}
use Rattle.bitstream_format.specs.Atoms as atom

-- Made by `./format` from formats/icmp_echo.fields: edit that file and make this one anew.

-- an error of the reader is one of the type's
abbrev pub becomes_icmp_echo : Error → IcmpEchoError → Type 0
becomes_icmp_echo error own = own ≡ Reader error

-- n bits after the first k
abbrev pub bits_at : ℕ → ℕ → List Bool → List Bool
bits_at k n bits = take n (drop k bits)

-- the case of a number
abbrev pub echo_kind_of : ℕ → (Result EchoKind IcmpEchoError)
echo_kind_of n = if n == 8 then Ok Request else if n == 0 then Ok Reply else Err NoEchoKind

-- the number of a case
abbrev pub echo_kind_number : EchoKind → ℕ
echo_kind_number Request = 8
echo_kind_number Reply = 0

-- the read of a case
abbrev pub echo_kind_read : Order → Decoder (Result EchoKind IcmpEchoError)
echo_kind_read o = and_then (unsigned_decoder o 8 8) (λ v. pure (echo_kind_of v))

-- the number of each case fits its bits, and decodes to that case
pub echo_kind_small : (it : EchoKind) → nat_lt (echo_kind_number it) (2 ^ 8) ≡ true
echo_kind_small Request = refl
echo_kind_small Reply = refl

pub echo_kind_again : (it : EchoKind) → echo_kind_of (echo_kind_number it) ≡ Ok it
echo_kind_again Request = refl
echo_kind_again Reply = refl

-- the cases, by their numbers
abbrev pub echo_kind_cases : OwnFormat IcmpEchoError EchoKind
echo_kind_cases = cases 8 8 refl echo_kind_of echo_kind_number echo_kind_small echo_kind_again

-- the 8 bits at 8, which are 0
abbrev pub const_at_8 : List Bool → ℕ
const_at_8 bits = number High (bits_at 8 8 bits)

-- the lines, in order
abbrev pub icmp_echo_lines : FormatParts IcmpEcho (Result IcmpEcho IcmpEchoError) (λ s. Ok s)
icmp_echo_lines = do
  kind ← own_field echo_kind_cases (λ s. s.kind)
  constant_1 ← const 8 0 refl OtherCode
  checksum ← field (atom.unsigned 16 16 refl) (λ s. s.checksum)
  identifier ← field (atom.unsigned 16 16 refl) (λ s. s.identifier)
  sequence ← field (atom.unsigned 16 16 refl) (λ s. s.sequence)
  own_done (record { kind = kind; checksum = checksum; identifier = identifier; sequence = sequence })

-- the reads, in order
abbrev pub icmp_echo_decoder : Order → Decoder (Result IcmpEcho IcmpEchoError)
icmp_echo_decoder o = icmp_echo_lines.read o

-- the writes, in order
abbrev pub icmp_echo_writes : Order → IcmpEcho → List Encoder
icmp_echo_writes o value = icmp_echo_lines.write o value

-- each field fits its bits
pub record Fits (value : IcmpEcho) : Type 0 where
  pub checksum : value.checksum < 2 ^ 16
  pub identifier : value.identifier < 2 ^ 16
  pub sequence : value.sequence < 2 ^ 16

-- the number of bits
abbrev pub icmp_echo_size : Order → IcmpEcho → ℕ
icmp_echo_size o value = 64

-- the format, with the facts that must fit by name
abbrev pub icmp_echo_format : OwnFormat IcmpEchoError IcmpEcho
icmp_echo_format = renamed Fits (format icmp_echo_lines (λ s. refl {a = s}))
    (λ s fits. fits.checksum & fits.identifier & fits.sequence)
    (λ s facts. record { checksum = facts.0; identifier = facts.1.0; sequence = facts.1.1 })

-- the bits of all fields, up to a whole byte
unfoldable pub icmp_echo_bits : IcmpEcho → List Bool
icmp_echo_bits value = write_sequence (icmp_echo_writes High value ++ align ∷ []) 0

-- the fields in bits, each by its place
abbrev pub icmp_echo_at : EchoKind → List Bool → IcmpEcho
icmp_echo_at kind bits = record {
  kind = kind;
  checksum = number High (bits_at 16 16 bits);
  identifier = number High (bits_at 32 16 bits);
  sequence = number High (bits_at 48 16 bits);
}
