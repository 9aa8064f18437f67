-- The header of an IPv4 packet with its options (RFC 791, section 3.1).
use Rattle.bitstream_messages.specs.declared.ipv4_datagram.Ipv4Datagram.{Ipv4Datagram}
use Rattle.bitstream_messages.specs.declared.ipv4_datagram.Ipv4DatagramError.{Ipv4DatagramError}
use Rattle.bitstream_messages.specs.declared.ipv4_datagram.Ipv4DatagramError.TheVariants.{Reader, OtherVersion, ReservedSet, ShortHeader}
use Rattle.bitstream_messages.specs.declared.ipv4_datagram.Ecn.{Ecn}
use Rattle.bitstream_messages.specs.declared.ipv4_datagram.Ecn.TheVariants.{NotCapable, Ect1, Ect0, Congested}
use Rattle.bitstream_format.specs.Stated.{sized_bytes, stated_decoder, stored_size}
use Rattle.std.proofs.Common.{refl, true}
use Rattle.bitstream_format.specs.Format.{◌>>=◌, Plain as PlainFormat, Own as OwnFormat, Parts as FormatParts, format, named, field, own_field, const, ◌&◌, own_done}
use Rattle.bitstream_format.specs.Lists.{own as as_own}
use Rattle.bitstream_format.specs.Cases.{cases}
use Rattle.bitstream_format.specs.Measured.{vec, in_units}
use Rattle.std.specs.Prelude.{◌≡◌, ◌^◌, ◌<◌, ◌++◌, ◌∷◌, [], ◌==◌, if◌then◌else◌, ℕ, Bool, List, Result, Ok, length, nat_lt}
use Rattle.std.specs.List.{All}
use Rattle.bitstream_io.specs.Callers.{Decoder, Encoder, pure, Error, Order, High, and_then, unsigned_decoder, align, write_sequence}
use Rattle.bitstream_format.specs.Atoms as atom

-- Made by `./format` from formats/ipv4_datagram.fields: edit that file and make this one anew.

-- an error of the reader is one of the type's
abbrev pub becomes_ipv4_datagram : Error → Ipv4DatagramError → Type 0
becomes_ipv4_datagram error own = own ≡ Reader error

-- the case of a number
abbrev pub ecn_of : ℕ → Ecn
ecn_of n = if n == 0 then NotCapable else if n == 1 then Ect1 else if n == 2 then Ect0 else Congested

-- the number of a case
abbrev pub ecn_number : Ecn → ℕ
ecn_number NotCapable = 0
ecn_number Ect1 = 1
ecn_number Ect0 = 2
ecn_number Congested = 3

-- the read of a case
abbrev pub ecn_read : Order → Decoder Ecn
ecn_read o = and_then (unsigned_decoder o 8 2) (λ v. pure (ecn_of v))

-- the number of each case fits its bits, and decodes to that case
pub ecn_small : (it : Ecn) → nat_lt (ecn_number it) (2 ^ 2) ≡ true
ecn_small NotCapable = refl
ecn_small Ect1 = refl
ecn_small Ect0 = refl
ecn_small Congested = refl

pub ecn_again : (it : Ecn) → ecn_of (ecn_number it) ≡ it
ecn_again NotCapable = refl
ecn_again Ect1 = refl
ecn_again Ect0 = refl
ecn_again Congested = refl

-- the cases, by their numbers
abbrev pub ecn_cases : PlainFormat Ecn
ecn_cases = cases 8 2 refl ecn_of ecn_number ecn_small ecn_again

-- the reads of `options` by the number that states its size
abbrev pub options_stated : Order → ℕ → Decoder (Result (List ℕ) Ipv4DatagramError)
options_stated o stored = stated_decoder 4 20 0 ShortHeader sized_bytes o stored

-- the lines, in order
abbrev pub ipv4_datagram_lines : FormatParts Ipv4Datagram (Result Ipv4Datagram Ipv4DatagramError) (λ s. Ok s)
ipv4_datagram_lines = do
  constant_0 ← const 4 4 refl OtherVersion
  options_bytes ← field (atom.unsigned 64 4 refl) (λ s. stored_size 4 20 0 (length s.options))
  dscp ← field (atom.unsigned 8 6 refl) (λ s. s.dscp)
  ecn ← field ecn_cases (λ s. s.ecn)
  length_ ← field (atom.unsigned 16 16 refl) (λ s. s.length)
  id ← field (atom.unsigned 16 16 refl) (λ s. s.id)
  constant_6 ← const 1 0 refl ReservedSet
  keep_whole ← field atom.bool (λ s. s.keep_whole)
  more_ ← field atom.bool (λ s. s.more)
  offset ← field (atom.unsigned 16 13 refl) (λ s. s.offset)
  ttl ← field (atom.unsigned 8 8 refl) (λ s. s.ttl)
  protocol ← field (atom.unsigned 8 8 refl) (λ s. s.protocol)
  checksum ← field (atom.unsigned 16 16 refl) (λ s. s.checksum)
  source ← field (atom.bytes 4) (λ s. s.source)
  target ← field (atom.bytes 4) (λ s. s.target)
  options ← own_field (in_units 4 20 0 (2 ^ 4) refl refl ShortHeader (λ xs. length xs) (λ n. as_own (vec n))
      options_bytes) (λ s. s.options)
  own_done (record {
    dscp = dscp;
    ecn = ecn;
    length = length_;
    id = id;
    keep_whole = keep_whole;
    more = more_;
    offset =
        offset;
    ttl = ttl;
    protocol = protocol;
    checksum = checksum;
    source = source;
    target = target;
    options = options;
  })

-- the reads, in order
abbrev pub ipv4_datagram_decoder : Order → Decoder (Result Ipv4Datagram Ipv4DatagramError)
ipv4_datagram_decoder o = ipv4_datagram_lines.read o

-- the writes, in order
abbrev pub ipv4_datagram_writes : Order → Ipv4Datagram → List Encoder
ipv4_datagram_writes o value = ipv4_datagram_lines.write o value

-- each field fits its bits
pub record Fits (value : Ipv4Datagram) : Type 0 where
  pub options_bytes : stored_size 4 20 0 (length value.options) < 2 ^ 4
  pub dscp : value.dscp < 2 ^ 6
  pub length_ : value.length < 2 ^ 16
  pub id : value.id < 2 ^ 16
  pub offset : value.offset < 2 ^ 13
  pub ttl : value.ttl < 2 ^ 8
  pub protocol : value.protocol < 2 ^ 8
  pub checksum : value.checksum < 2 ^ 16
  pub source_count : length value.source ≡ 4
  pub source : All (λ b. b < 256) value.source
  pub target_count : length value.target ≡ 4
  pub target : All (λ b. b < 256) value.target
  pub options : All (λ b. b < 256) value.options

-- the number of bits
abbrev pub ipv4_datagram_size : Order → Ipv4Datagram → ℕ
ipv4_datagram_size o value = ipv4_datagram_lines.size value

-- the format, with the facts that must fit by name
abbrev pub ipv4_datagram_format : OwnFormat Ipv4DatagramError Ipv4Datagram
ipv4_datagram_format = named Fits (format ipv4_datagram_lines (λ s. refl {a = s}))
    (λ s fits. fits.options_bytes & fits.dscp & fits.length_ & fits.id & fits.offset & fits.ttl & fits.protocol &
    fits.checksum & fits.source_count & fits.source & fits.target_count & fits.target & (fits.options, refl) &
    fits.options_bytes & refl)

-- the bits of all fields, up to a whole byte
unfoldable pub ipv4_datagram_bits : Ipv4Datagram → List Bool
ipv4_datagram_bits value = write_sequence (ipv4_datagram_writes High value ++ align ∷ []) 0
