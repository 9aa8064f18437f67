-- The header of an IPv6 packet, without extension headers (RFC 8200, section 3).
use Rattle.protocols.specs.declared.ipv6_header.Ipv6Header.{Ipv6Header}
use Rattle.protocols.specs.declared.ipv6_header.Ipv6Error.{Ipv6Error}
use Rattle.protocols.specs.declared.ipv6_header.Ipv6Error.TheVariants.{Reader, OtherVersion}
use Rattle.protocols.specs.declared.ipv6_header.Ecn.{Ecn}
use Rattle.protocols.specs.declared.ipv6_header.Ecn.TheVariants.{NotCapable, Ect1, Ect0, Congested}
use Rattle.protocols.specs.declared.ipv6_header.Following.{Following}
use Rattle.protocols.specs.declared.ipv6_header.Following.TheVariants.{HopByHop, Tcp, Udp, Routing, Fragment, Icmp, Other}
use Rattle.std.proofs.Common.{refl, true}
use Rattle.bitstream_format.specs.Format.{◌>>=◌, Plain as PlainFormat, Own as OwnFormat, Parts as FormatParts, format, named, field, const, ◌&◌, own_done}
use Rattle.bitstream_format.specs.Cases.{cases, open_cases}
use Rattle.std.specs.Prelude.{◌≡◌, ◌^◌, ◌<◌, ◌++◌, ◌∷◌, [], ◌==◌, if◌then◌else◌, ℕ, Bool, List, Result, Ok, length, take, drop, nat_lt}
use Rattle.std.specs.List.{All}
use Rattle.bitstream_io.specs.Callers.{Decoder, Encoder, pure, Error, Order, High, number, and_then, unsigned_decoder, bytes_of, align, write_sequence}
use Rattle.bitstream_format.specs.Atoms as atom

-- Made by `./format` from formats/ipv6_header.fields: edit that file and make this one anew.

-- an error of the reader is one of the type's
abbrev pub becomes_ipv6_header : Error → Ipv6Error → Type 0
becomes_ipv6_header error own = own ≡ Reader error

-- n bits after the first k
abbrev pub bits_at : ℕ → ℕ → List Bool → List Bool
bits_at k n bits = take n (drop k bits)

-- the 4 bits at 0, which are 6
abbrev pub const_at_0 : List Bool → ℕ
const_at_0 bits = number High (bits_at 0 4 bits)

-- the case of a number
abbrev pub ecn_of : ℕ → Ecn
ecn_of n = if n == 0 then NotCapable else if n == 1 then Ect1 else if n == 2 then Ect0 else Congested

-- the number of a case
abbrev pub ecn_number : Ecn → ℕ
ecn_number NotCapable = 0
ecn_number Ect1 = 1
ecn_number Ect0 = 2
ecn_number Congested = 3

-- the read of a case
abbrev pub ecn_read : Order → Decoder Ecn
ecn_read o = and_then (unsigned_decoder o 8 2) (λ v. pure (ecn_of v))

-- the number of each case fits its bits, and decodes to that case
pub ecn_small : (it : Ecn) → nat_lt (ecn_number it) (2 ^ 2) ≡ true
ecn_small NotCapable = refl
ecn_small Ect1 = refl
ecn_small Ect0 = refl
ecn_small Congested = refl

pub ecn_again : (it : Ecn) → ecn_of (ecn_number it) ≡ it
ecn_again NotCapable = refl
ecn_again Ect1 = refl
ecn_again Ect0 = refl
ecn_again Congested = refl

-- the cases, by their numbers
abbrev pub ecn_cases : PlainFormat Ecn
ecn_cases = cases 8 2 refl ecn_of ecn_number ecn_small ecn_again

-- the case of a number
abbrev pub following_of : ℕ → Following
following_of n = if n == 0 then HopByHop else if n == 6 then Tcp else if n == 17 then Udp else if n == 43 then Routing
    else if n == 44 then Fragment else if n == 58 then Icmp else Other n

-- the number of a case
abbrev pub following_number : Following → ℕ
following_number HopByHop = 0
following_number Tcp = 6
following_number Udp = 17
following_number Routing = 43
following_number Fragment = 44
following_number Icmp = 58
following_number (Other n) = n

-- the read of a case
abbrev pub following_read : Order → Decoder Following
following_read o = and_then (unsigned_decoder o 8 8) (λ v. pure (following_of v))

-- the cases, by their numbers
abbrev pub following_cases : PlainFormat Following
following_cases = open_cases 8 8 refl following_of following_number

-- the lines, in order
abbrev pub ipv6_header_lines : FormatParts Ipv6Header (Result Ipv6Header Ipv6Error) (λ s. Ok s)
ipv6_header_lines = do
  constant_0 ← const 4 6 refl OtherVersion
  dscp ← field (atom.unsigned 8 6 refl) (λ s. s.dscp)
  ecn ← field ecn_cases (λ s. s.ecn)
  flow ← field (atom.unsigned 32 20 refl) (λ s. s.flow)
  payload_size ← field (atom.unsigned 16 16 refl) (λ s. s.payload_size)
  following ← field following_cases (λ s. s.following)
  hop_limit ← field (atom.unsigned 8 8 refl) (λ s. s.hop_limit)
  source ← field (atom.bytes 16) (λ s. s.source)
  target ← field (atom.bytes 16) (λ s. s.target)
  own_done (record {
    dscp = dscp;
    ecn = ecn;
    flow = flow;
    payload_size = payload_size;
    following = following;
    hop_limit
        = hop_limit;
    source = source;
    target = target;
  })

-- the reads, in order
abbrev pub ipv6_header_decoder : Order → Decoder (Result Ipv6Header Ipv6Error)
ipv6_header_decoder o = ipv6_header_lines.read o

-- the writes, in order
abbrev pub ipv6_header_writes : Order → Ipv6Header → List Encoder
ipv6_header_writes o value = ipv6_header_lines.write o value

-- each field fits its bits
pub record Fits (value : Ipv6Header) : Type 0 where
  pub dscp : value.dscp < 2 ^ 6
  pub flow : value.flow < 2 ^ 20
  pub payload_size : value.payload_size < 2 ^ 16
  pub following : following_number value.following < 2 ^ 8
  pub following_again : following_of (following_number value.following) ≡ value.following
  pub hop_limit : value.hop_limit < 2 ^ 8
  pub source_count : length value.source ≡ 16
  pub source : All (λ b. b < 256) value.source
  pub target_count : length value.target ≡ 16
  pub target : All (λ b. b < 256) value.target

-- the number of bits
abbrev pub ipv6_header_size : Order → Ipv6Header → ℕ
ipv6_header_size o value = 320

-- the format, with the facts that must fit by name
abbrev pub ipv6_header_format : OwnFormat Ipv6Error Ipv6Header
ipv6_header_format = named Fits (format ipv6_header_lines (λ s. refl {a = s}))
    (λ s fits. fits.dscp & fits.flow & fits.payload_size & fits.following & fits.following_again & fits.hop_limit &
    fits.source_count & fits.source & fits.target_count & fits.target)

-- the bits of all fields, up to a whole byte
unfoldable pub ipv6_header_bits : Ipv6Header → List Bool
ipv6_header_bits value = write_sequence (ipv6_header_writes High value ++ align ∷ []) 0

-- the fields in bits, each by its place
abbrev pub ipv6_header_at : List Bool → Ipv6Header
ipv6_header_at bits = record {
  dscp = number High (bits_at 4 6 bits);
  ecn = ecn_of (number High (bits_at 10 2 bits));
  flow = number High (bits_at 12 20 bits);
  payload_size = number High (bits_at 32 16 bits);
  following = following_of (number High (bits_at 48 8 bits));
  hop_limit = number High (bits_at 56 8 bits);
  source = bytes_of High 16 (bits_at 64 128 bits);
  target = bytes_of High 16 (bits_at 192 128 bits);
}
