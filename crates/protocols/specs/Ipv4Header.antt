-- The first 20 bytes of the header of an IPv4 packet, without options (RFC 791, section 3.1).
use Rattle.protocols.specs.declared.ipv4_header.Ipv4Header.{Ipv4Header}
use Rattle.protocols.specs.declared.ipv4_header.Ipv4Error.{Ipv4Error}
use Rattle.protocols.specs.declared.ipv4_header.Ipv4Error.TheVariants.{Reader, OtherVersion, ReservedSet}
use Rattle.protocols.specs.declared.ipv4_header.Ecn.{Ecn}
use Rattle.protocols.specs.declared.ipv4_header.Ecn.TheVariants.{NotCapable, Ect1, Ect0, Congested}
use Rattle.protocols.specs.declared.ipv4_header.Protocol.{Protocol}
use Rattle.protocols.specs.declared.ipv4_header.Protocol.TheVariants.{Icmp, Tcp, Udp, Other}
use Rattle.std.proofs.Common.{refl, true}
use Rattle.bitstream_format.specs.Format.{◌>>=◌, Plain as PlainFormat, Own as OwnFormat, Parts as FormatParts, format, named, field, const, ◌&◌, own_done}
use Rattle.bitstream_format.specs.Cases.{cases, open_cases}
use Rattle.std.specs.Prelude.{◌≡◌, ◌^◌, ◌<◌, ◌++◌, ◌∷◌, [], ◌==◌, if◌then◌else◌, ℕ, Bool, List, Result, Ok, length, take, drop, nat_lt}
use Rattle.std.specs.List.{All}
use Rattle.bitstream_io.specs.Callers.{Decoder, Encoder, pure, Error, Order, High, number, and_then, first_bit, unsigned_decoder, bytes_of, align, write_sequence}
use Rattle.bitstream_format.specs.Atoms as atom

-- Made by `./format` from formats/ipv4_header.fields: edit that file and make this one anew.

-- an error of the reader is one of the type's
abbrev pub becomes_ipv4_header : Error → Ipv4Error → Type 0
becomes_ipv4_header error own = own ≡ Reader error

-- n bits after the first k
abbrev pub bits_at : ℕ → ℕ → List Bool → List Bool
bits_at k n bits = take n (drop k bits)

-- the 4 bits at 0, which are 4
abbrev pub const_at_0 : List Bool → ℕ
const_at_0 bits = number High (bits_at 0 4 bits)

-- the case of a number
abbrev pub ecn_of : ℕ → Ecn
ecn_of n = if n == 0 then NotCapable else if n == 1 then Ect1 else if n == 2 then Ect0 else Congested

-- the number of a case
abbrev pub ecn_number : Ecn → ℕ
ecn_number NotCapable = 0
ecn_number Ect1 = 1
ecn_number Ect0 = 2
ecn_number Congested = 3

-- the read of a case
abbrev pub ecn_read : Order → Decoder Ecn
ecn_read o = and_then (unsigned_decoder o 8 2) (λ v. pure (ecn_of v))

-- the number of each case fits its bits, and decodes to that case
pub ecn_small : (it : Ecn) → nat_lt (ecn_number it) (2 ^ 2) ≡ true
ecn_small NotCapable = refl
ecn_small Ect1 = refl
ecn_small Ect0 = refl
ecn_small Congested = refl

pub ecn_again : (it : Ecn) → ecn_of (ecn_number it) ≡ it
ecn_again NotCapable = refl
ecn_again Ect1 = refl
ecn_again Ect0 = refl
ecn_again Congested = refl

-- the cases, by their numbers
abbrev pub ecn_cases : PlainFormat Ecn
ecn_cases = cases 8 2 refl ecn_of ecn_number ecn_small ecn_again

-- the 1 bits at 48, which are 0
abbrev pub const_at_48 : List Bool → ℕ
const_at_48 bits = number High (bits_at 48 1 bits)

-- the case of a number
abbrev pub protocol_of : ℕ → Protocol
protocol_of n = if n == 1 then Icmp else if n == 6 then Tcp else if n == 17 then Udp else Other n

-- the number of a case
abbrev pub protocol_number : Protocol → ℕ
protocol_number Icmp = 1
protocol_number Tcp = 6
protocol_number Udp = 17
protocol_number (Other n) = n

-- the read of a case
abbrev pub protocol_read : Order → Decoder Protocol
protocol_read o = and_then (unsigned_decoder o 8 8) (λ v. pure (protocol_of v))

-- the cases, by their numbers
abbrev pub protocol_cases : PlainFormat Protocol
protocol_cases = open_cases 8 8 refl protocol_of protocol_number

-- the lines, in order
abbrev pub ipv4_header_lines : FormatParts Ipv4Header (Result Ipv4Header Ipv4Error) (λ s. Ok s)
ipv4_header_lines = do
  constant_0 ← const 4 4 refl OtherVersion
  words_ ← field (atom.unsigned 8 4 refl) (λ s. s.words)
  dscp ← field (atom.unsigned 8 6 refl) (λ s. s.dscp)
  ecn ← field ecn_cases (λ s. s.ecn)
  size ← field (atom.unsigned 16 16 refl) (λ s. s.size)
  id ← field (atom.unsigned 16 16 refl) (λ s. s.id)
  constant_6 ← const 1 0 refl ReservedSet
  keep_whole ← field atom.bool (λ s. s.keep_whole)
  fragments_follow ← field atom.bool (λ s. s.fragments_follow)
  offset ← field (atom.unsigned 16 13 refl) (λ s. s.offset)
  ttl ← field (atom.unsigned 8 8 refl) (λ s. s.ttl)
  protocol ← field protocol_cases (λ s. s.protocol)
  checksum ← field (atom.unsigned 16 16 refl) (λ s. s.checksum)
  source ← field (atom.bytes 4) (λ s. s.source)
  target ← field (atom.bytes 4) (λ s. s.target)
  own_done (record {
    words = words_;
    dscp = dscp;
    ecn = ecn;
    size = size;
    id = id;
    keep_whole = keep_whole;
    fragments_follow = fragments_follow;
    offset = offset;
    ttl = ttl;
    protocol = protocol;
    checksum = checksum;
    source
        = source;
    target = target;
  })

-- the reads, in order
abbrev pub ipv4_header_decoder : Order → Decoder (Result Ipv4Header Ipv4Error)
ipv4_header_decoder o = ipv4_header_lines.read o

-- the writes, in order
abbrev pub ipv4_header_writes : Order → Ipv4Header → List Encoder
ipv4_header_writes o value = ipv4_header_lines.write o value

-- each field fits its bits
pub record Fits (value : Ipv4Header) : Type 0 where
  pub words_ : value.words < 2 ^ 4
  pub dscp : value.dscp < 2 ^ 6
  pub size : value.size < 2 ^ 16
  pub id : value.id < 2 ^ 16
  pub offset : value.offset < 2 ^ 13
  pub ttl : value.ttl < 2 ^ 8
  pub protocol : protocol_number value.protocol < 2 ^ 8
  pub protocol_again : protocol_of (protocol_number value.protocol) ≡ value.protocol
  pub checksum : value.checksum < 2 ^ 16
  pub source_count : length value.source ≡ 4
  pub source : All (λ b. b < 256) value.source
  pub target_count : length value.target ≡ 4
  pub target : All (λ b. b < 256) value.target

-- the number of bits
abbrev pub ipv4_header_size : Order → Ipv4Header → ℕ
ipv4_header_size o value = 160

-- the format, with the facts that must fit by name
abbrev pub ipv4_header_format : OwnFormat Ipv4Error Ipv4Header
ipv4_header_format = named Fits (format ipv4_header_lines (λ s. refl {a = s}))
    (λ s fits. fits.words_ & fits.dscp & fits.size & fits.id & fits.offset & fits.ttl & fits.protocol &
    fits.protocol_again & fits.checksum & fits.source_count & fits.source & fits.target_count & fits.target)

-- the bits of all fields, up to a whole byte
unfoldable pub ipv4_header_bits : Ipv4Header → List Bool
ipv4_header_bits value = write_sequence (ipv4_header_writes High value ++ align ∷ []) 0

-- the fields in bits, each by its place
abbrev pub ipv4_header_at : List Bool → Ipv4Header
ipv4_header_at bits = record {
  words = number High (bits_at 4 4 bits);
  dscp = number High (bits_at 8 6 bits);
  ecn = ecn_of (number High (bits_at 14 2 bits));
  size = number High (bits_at 16 16 bits);
  id = number High (bits_at 32 16 bits);
  keep_whole = first_bit (bits_at 49 1 bits);
  fragments_follow = first_bit (bits_at 50 1 bits);
  offset = number High (bits_at 51 13 bits);
  ttl = number High (bits_at 64 8 bits);
  protocol = protocol_of (number High (bits_at 72 8 bits));
  checksum = number High (bits_at 80 16 bits);
  source = bytes_of High 4 (bits_at 96 32 bits);
  target = bytes_of High 4 (bits_at 128 32 bits);
}
