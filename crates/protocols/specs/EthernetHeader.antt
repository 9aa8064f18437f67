-- The header of an Ethernet frame with an EtherType (IEEE 802.3, section 3.1.1).
use Rattle.protocols.specs.declared.ethernet_header.EthernetHeader.{EthernetHeader}
use Rattle.protocols.specs.declared.ethernet_header.EtherType.{EtherType}
use Rattle.protocols.specs.declared.ethernet_header.EtherType.TheVariants.{Ipv4, Arp, Vlan, Ipv6, Other}
use Rattle.protocols.specs.VlanTag.{vlan_tag_format, Fits as VlanTagFits}
use Rattle.std.proofs.Common.{refl}
use Rattle.bitstream_format.specs.Format.{◌>>=◌, Plain as PlainFormat, Parts as FormatParts, format, named, field, free, ◌&◌, done}
use Rattle.bitstream_format.specs.Lists.{optional}
use Rattle.bitstream_format.specs.Cases.{open_cases}
use Rattle.std.specs.Prelude.{◌≡◌, ◌^◌, ◌<◌, ◌++◌, ◌∷◌, [], ◌==◌, if◌then◌else◌, ℕ, Bool, List, is_some, length}
use Rattle.std.specs.List.{All}
use Rattle.std.specs.Option.{ForSome}
use Rattle.bitstream_io.specs.Callers.{Decoder, Encoder, pure, Order, High, and_then, unsigned_decoder, align, write_sequence}
use Rattle.bitstream_format.specs.Atoms as atom

-- Made by `./format` from formats/ethernet_header.fields: edit that file and make this one anew.

-- the case of a number
abbrev pub ether_type_of : ℕ → EtherType
ether_type_of n = if n == 2048 then Ipv4 else if n == 2054 then Arp else if n == 33024 then Vlan else if n == 34525 then
    Ipv6 else Other n

-- the number of a case
abbrev pub ether_type_number : EtherType → ℕ
ether_type_number Ipv4 = 2048
ether_type_number Arp = 2054
ether_type_number Vlan = 33024
ether_type_number Ipv6 = 34525
ether_type_number (Other n) = n

-- the read of a case
abbrev pub ether_type_read : Order → Decoder EtherType
ether_type_read o = and_then (unsigned_decoder o 16 16) (λ v. pure (ether_type_of v))

-- the cases, by their numbers
abbrev pub ether_type_cases : PlainFormat EtherType
ether_type_cases = open_cases 16 16 refl ether_type_of ether_type_number

-- the lines, in order
abbrev pub ethernet_header_lines : FormatParts EthernetHeader EthernetHeader (λ s. s)
ethernet_header_lines = do
  target ← field (atom.bytes 6) (λ s. s.target)
  source ← field (atom.bytes 6) (λ s. s.source)
  kind ← field ether_type_cases (λ s. s.kind)
  tag ← free (optional (ether_type_number kind == 33024) vlan_tag_format (λ s. s.tag))
  done (record { target = target; source = source; kind = kind; tag = tag })

-- the reads, in order
abbrev pub ethernet_header_decoder : Order → Decoder EthernetHeader
ethernet_header_decoder o = ethernet_header_lines.read o

-- the writes, in order
abbrev pub ethernet_header_writes : Order → EthernetHeader → List Encoder
ethernet_header_writes o value = ethernet_header_lines.write o value

-- each field fits its bits
pub record Fits (value : EthernetHeader) : Type 0 where
  pub target_count : length value.target ≡ 6
  pub target : All (λ b. b < 256) value.target
  pub source_count : length value.source ≡ 6
  pub source : All (λ b. b < 256) value.source
  pub kind : ether_type_number value.kind < 2 ^ 16
  pub kind_again : ether_type_of (ether_type_number value.kind) ≡ value.kind
  pub tag : ForSome value.tag VlanTagFits
  pub tag_there : is_some value.tag ≡ (ether_type_number value.kind == 33024)

-- the number of bits
abbrev pub ethernet_header_size : Order → EthernetHeader → ℕ
ethernet_header_size o value = ethernet_header_lines.size value

-- the format, with the facts that must fit by name
abbrev pub ethernet_header_format : PlainFormat EthernetHeader
ethernet_header_format = named Fits (format ethernet_header_lines (λ s. refl {a = s}))
    (λ s fits. fits.target_count & fits.target & fits.source_count & fits.source & fits.kind & fits.kind_again &
    fits.tag & fits.tag_there)

-- the bits of all fields, up to a whole byte
unfoldable pub ethernet_header_bits : EthernetHeader → List Bool
ethernet_header_bits value = write_sequence (ethernet_header_writes High value ++ align ∷ []) 0
