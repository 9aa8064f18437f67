-- Made by `./format --c` from ../protocols/formats/ethernet_header.fields: edit that file and make this one anew.
-- A `EthernetHeader` as C sees it.
use Rattle.protocols_c.specs.declared.ethernet_header.EthernetHeaderC.{EthernetHeaderC}
use Rattle.protocols_c.specs.declared.ethernet_header.EthernetHeaderParsed.{EthernetHeaderParsed}
use Rattle.protocols_c.specs.VlanTag.{vlan_tag_to_c, vlan_tag_from_c, vlan_tag_zero}
use Rattle.protocols_c.specs.declared.vlan_tag.VlanTagC.{VlanTagC}
use Rattle.protocols.specs.EthernetHeader.{ethernet_header_size, ethernet_header_bits, ether_type_of, ether_type_number}
use Rattle.protocols.specs.declared.ethernet_header.EthernetHeader.{EthernetHeader}
use Rattle.protocols.specs.declared.vlan_tag.VlanTag.{VlanTag}
use Rattle.std.specs.Prelude.{◌+◌, ◌/◌, ◌∷◌, [], ◌==◌, if◌then◌else◌, ℕ, ℤ, Bool, List, Result, Ok, Err, Option, Some, None, pos}
use Rattle.bitstream_io.specs.Codec.{Prefix, Incomplete, Done}
use Rattle.bitstream_io.specs.Callers.{Error, High}

-- 1 if there is a `VlanTag`, and 0 if there is none
abbrev pub ethernet_header_has_vlan_tag : Option VlanTag → ℕ
ethernet_header_has_vlan_tag (Some value) = 1
ethernet_header_has_vlan_tag None = 0

-- the struct of C of a `VlanTag`, with zeros if there is none
abbrev pub ethernet_header_vlan_tag_or_zero : Option VlanTag → VlanTagC
ethernet_header_vlan_tag_or_zero (Some value) = vlan_tag_to_c value
ethernet_header_vlan_tag_or_zero None = vlan_tag_zero

-- a `VlanTag` of C that is there, if it has fields
abbrev pub ethernet_header_vlan_tag_there : Option VlanTag → Option (Option VlanTag)
ethernet_header_vlan_tag_there (Some value) = Some (Some value)
ethernet_header_vlan_tag_there None = None

-- a `VlanTag` of C, which is there unless a number of C is 0
abbrev pub ethernet_header_vlan_tag_if : ℕ → VlanTagC → Option (Option VlanTag)
ethernet_header_vlan_tag_if has c = if has == 0 then Some None else ethernet_header_vlan_tag_there (vlan_tag_from_c c)

-- the struct of C with these fields
abbrev pub ethernet_header_to_c : EthernetHeader → EthernetHeaderC
ethernet_header_to_c value = record {
  target = value.target;
  source = value.source;
  kind = ether_type_number value.kind;
  has_tag = ethernet_header_has_vlan_tag value.tag;
  tag = ethernet_header_vlan_tag_or_zero value.tag;
}

-- the fields of a struct of C, of which some are made already
abbrev pub ethernet_header_made : EthernetHeaderC → Option (Option VlanTag) → Option EthernetHeader
ethernet_header_made c (Some tag) = Some (record {
  target = c.target;
  source = c.source;
  kind = ether_type_of c.kind;
  tag = tag;
})
ethernet_header_made c None = None

-- the fields of a struct of C, or none if a number of C is no value of its field
abbrev pub ethernet_header_from_c : EthernetHeaderC → Option EthernetHeader
ethernet_header_from_c c = ethernet_header_made c (ethernet_header_vlan_tag_if c.has_tag c.tag)

-- the struct of C after an error
abbrev pub ethernet_header_zero : EthernetHeaderC
ethernet_header_zero = record {
  target = 0 ∷ 0 ∷ 0 ∷ 0 ∷ 0 ∷ 0 ∷ [];
  source = 0 ∷ 0 ∷ 0 ∷ 0 ∷ 0 ∷ 0 ∷ [];
  kind = 0;
  has_tag = 0;
  tag = vlan_tag_zero;
}

-- the number of bytes of fields
abbrev pub ethernet_header_bytes : EthernetHeader → ℕ
ethernet_header_bytes value = (ethernet_header_size High value + 7) / 8

-- the number of bytes of the fields of a struct of C, if it has fields
abbrev pub ethernet_header_room : Option EthernetHeader → ℕ
ethernet_header_room (Some value) = ethernet_header_bytes value
ethernet_header_room None = 0

-- the result of a parse that failed
abbrev pub ethernet_header_failed : ℤ → EthernetHeaderParsed
ethernet_header_failed status = record { status = status; taken = 0; value = ethernet_header_zero }

-- the result of a parse for C: 0, the number of bytes that were taken and the fields, or which error
abbrev pub ethernet_header_parsed : ℕ → Result EthernetHeader Error → EthernetHeaderParsed
ethernet_header_parsed taken (Ok value) = record { status = pos 0; taken = taken; value = ethernet_header_to_c value }
ethernet_header_parsed taken (Err e) = ethernet_header_failed (pos 1)

-- the same for what the decoder says of all bits: too few, or its result after the first n
abbrev pub ethernet_header_answer : Prefix EthernetHeader → EthernetHeaderParsed
ethernet_header_answer Incomplete = ethernet_header_failed (pos 1)
ethernet_header_answer (Done n (Ok value)) = ethernet_header_parsed ((n + 7) / 8) (Ok value)
ethernet_header_answer (Done n (Err e)) = ethernet_header_failed (pos 1)

-- the bits of the fields of a struct of C, if it has fields
abbrev pub ethernet_header_held : Option EthernetHeader → List Bool
ethernet_header_held (Some value) = ethernet_header_bits value
ethernet_header_held None = []
