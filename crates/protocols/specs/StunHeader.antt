-- The header of a message of STUN (RFC 8489, section 5).
use Rattle.protocols.specs.declared.stun_header.StunHeader.{StunHeader}
use Rattle.protocols.specs.declared.stun_header.StunHeaderError.{StunHeaderError}
use Rattle.protocols.specs.declared.stun_header.StunHeaderError.TheVariants.{Reader, NoStun, NoCookie}
use Rattle.std.proofs.Common.{refl}
use Rattle.bitstream_format.specs.Format.{◌>>=◌, Own as OwnFormat, Parts as FormatParts, format, named, field, const, ◌&◌, own_done}
use Rattle.std.specs.Prelude.{◌≡◌, ◌^◌, ◌<◌, ◌++◌, ◌∷◌, [], ℕ, Bool, List, Result, Ok, length, take, drop}
use Rattle.std.specs.List.{All}
use Rattle.bitstream_io.specs.Callers.{Decoder, Encoder, Error, Order, High, number, bytes_of, align, write_sequence}
use Rattle.bitstream_format.specs.Atoms as atom

-- Made by `./format` from formats/stun_header.fields: edit that file and make this one anew.

-- an error of the reader is one of the type's
abbrev pub becomes_stun_header : Error → StunHeaderError → Type 0
becomes_stun_header error own = own ≡ Reader error

-- n bits after the first k
abbrev pub bits_at : ℕ → ℕ → List Bool → List Bool
bits_at k n bits = take n (drop k bits)

-- the 2 bits at 0, which are 0
abbrev pub const_at_0 : List Bool → ℕ
const_at_0 bits = number High (bits_at 0 2 bits)

-- the 32 bits at 32, which are 554869826
abbrev pub const_at_32 : List Bool → ℕ
const_at_32 bits = number High (bits_at 32 32 bits)

-- the lines, in order
abbrev pub stun_header_lines : FormatParts StunHeader (Result StunHeader StunHeaderError) (λ s. Ok s)
stun_header_lines = do
  constant_0 ← const 2 0 refl NoStun
  kind ← field (atom.unsigned 16 14 refl) (λ s. s.kind)
  length_ ← field (atom.unsigned 16 16 refl) (λ s. s.length)
  constant_3 ← const 32 554869826 refl NoCookie
  id ← field (atom.bytes 12) (λ s. s.id)
  own_done (record { kind = kind; length = length_; id = id })

-- the reads, in order
abbrev pub stun_header_decoder : Order → Decoder (Result StunHeader StunHeaderError)
stun_header_decoder o = stun_header_lines.read o

-- the writes, in order
abbrev pub stun_header_writes : Order → StunHeader → List Encoder
stun_header_writes o value = stun_header_lines.write o value

-- each field fits its bits
pub record Fits (value : StunHeader) : Type 0 where
  pub kind : value.kind < 2 ^ 14
  pub length_ : value.length < 2 ^ 16
  pub id_count : length value.id ≡ 12
  pub id : All (λ b. b < 256) value.id

-- the number of bits
abbrev pub stun_header_size : Order → StunHeader → ℕ
stun_header_size o value = 160

-- the format, with the facts that must fit by name
abbrev pub stun_header_format : OwnFormat StunHeaderError StunHeader
stun_header_format = named Fits (format stun_header_lines (λ s. refl {a = s}))
    (λ s fits. fits.kind & fits.length_ & fits.id_count & fits.id)

-- the bits of all fields, up to a whole byte
unfoldable pub stun_header_bits : StunHeader → List Bool
stun_header_bits value = write_sequence (stun_header_writes High value ++ align ∷ []) 0

-- the fields in bits, each by its place
abbrev pub stun_header_at : List Bool → StunHeader
stun_header_at bits = record {
  kind = number High (bits_at 2 14 bits);
  length = number High (bits_at 16 16 bits);
  id = bytes_of High 12 (bits_at 64 96 bits);
}
