-- The tag of a virtual network, after its EtherType 0x8100 (IEEE 802.1Q, section 9.6).
use Rattle.protocols.specs.declared.vlan_tag.VlanTag.{VlanTag}
use Rattle.std.proofs.Common.{refl}
use Rattle.bitstream_format.specs.Format.{◌>>=◌, Plain as PlainFormat, Parts as FormatParts, format, renamed, field, ◌&◌, done}
use Rattle.std.specs.Prelude.{◌^◌, ◌<◌, ◌++◌, ◌∷◌, [], ℕ, Bool, List, take, drop}
use Rattle.bitstream_io.specs.Callers.{Decoder, Encoder, Order, High, number, first_bit, align, write_sequence}
use Rattle.bitstream_format.specs.Atoms as atom

-- Made by `./format` from formats/vlan_tag.fields: edit that file and make this one anew.

-- n bits after the first k
abbrev pub bits_at : ℕ → ℕ → List Bool → List Bool
bits_at k n bits = take n (drop k bits)

-- the lines, in order
abbrev pub vlan_tag_lines : FormatParts VlanTag VlanTag (λ s. s)
vlan_tag_lines = do
  priority ← field (atom.unsigned 8 3 refl) (λ s. s.priority)
  drop_eligible ← field atom.bool (λ s. s.drop_eligible)
  vlan ← field (atom.unsigned 16 12 refl) (λ s. s.vlan)
  kind ← field (atom.unsigned 16 16 refl) (λ s. s.kind)
  done (record { priority = priority; drop_eligible = drop_eligible; vlan = vlan; kind = kind })

-- the reads, in order
abbrev pub vlan_tag_decoder : Order → Decoder VlanTag
vlan_tag_decoder o = vlan_tag_lines.read o

-- the writes, in order
abbrev pub vlan_tag_writes : Order → VlanTag → List Encoder
vlan_tag_writes o value = vlan_tag_lines.write o value

-- each field fits its bits
pub record Fits (value : VlanTag) : Type 0 where
  pub priority : value.priority < 2 ^ 3
  pub vlan : value.vlan < 2 ^ 12
  pub kind : value.kind < 2 ^ 16

-- the number of bits
abbrev pub vlan_tag_size : Order → VlanTag → ℕ
vlan_tag_size o value = 32

-- the format, with the facts that must fit by name
abbrev pub vlan_tag_format : PlainFormat VlanTag
vlan_tag_format = renamed Fits (format vlan_tag_lines (λ s. refl {a = s}))
    (λ s fits. fits.priority & fits.vlan & fits.kind)
    (λ s facts. record { priority = facts.0; vlan = facts.1.0; kind = facts.1.1 })

-- the bits of all fields, up to a whole byte
unfoldable pub vlan_tag_bits : VlanTag → List Bool
vlan_tag_bits value = write_sequence (vlan_tag_writes High value ++ align ∷ []) 0

-- the fields in bits, each by its place
abbrev pub vlan_tag_at : List Bool → VlanTag
vlan_tag_at bits = record {
  priority = number High (bits_at 0 3 bits);
  drop_eligible = first_bit (bits_at 3 1 bits);
  vlan = number High (bits_at 4 12 bits);
  kind = number High (bits_at 16 16 bits);
}
