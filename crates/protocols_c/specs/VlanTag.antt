-- Made by `./format --c` from ../protocols/formats/vlan_tag.fields: edit that file and make this one anew.
-- A `VlanTag` as C sees it.
use Rattle.protocols_c.specs.declared.vlan_tag.VlanTagC.{VlanTagC}
use Rattle.protocols_c.specs.declared.vlan_tag.VlanTagParsed.{VlanTagParsed}
use Rattle.protocols.specs.VlanTag.{vlan_tag_bits}
use Rattle.protocols.specs.declared.vlan_tag.VlanTag.{VlanTag}
use Rattle.std.specs.Prelude.{[], ◌==◌, if◌then◌else◌, Bool, not, List, Result, Ok, Err, Option, Some, None, pos}
use Rattle.bitstream_io.specs.Callers.{Error}

-- the struct of C with these fields
abbrev pub vlan_tag_to_c : VlanTag → VlanTagC
vlan_tag_to_c value = record {
  priority = value.priority;
  drop_eligible = if value.drop_eligible then 1 else 0;
  vlan = value.vlan;
  kind = value.kind;
}

-- the fields of a struct of C, or none if a number of C is no value of its field
abbrev pub vlan_tag_from_c : VlanTagC → Option VlanTag
vlan_tag_from_c c = Some (record {
  priority = c.priority;
  drop_eligible = not (c.drop_eligible == 0);
  vlan = c.vlan;
  kind = c.kind;
})

-- the struct of C after an error
abbrev pub vlan_tag_zero : VlanTagC
vlan_tag_zero = record {
  priority = 0;
  drop_eligible = 0;
  vlan = 0;
  kind = 0;
}

-- the result of a parse for C: 0 and the fields, or which error
abbrev pub vlan_tag_parsed : Result VlanTag Error → VlanTagParsed
vlan_tag_parsed (Ok value) = record { status = pos 0; value = vlan_tag_to_c value }
vlan_tag_parsed (Err e) = record { status = pos 1; value = vlan_tag_zero }

-- the same for the result of the decoder, whose errors are the reader's
abbrev pub vlan_tag_answer : Result VlanTag Error → VlanTagParsed
vlan_tag_answer (Ok value) = vlan_tag_parsed (Ok value)
vlan_tag_answer (Err e) = record { status = pos 1; value = vlan_tag_zero }

-- the bits of the fields of a struct of C, if it has fields
abbrev pub vlan_tag_held : Option VlanTag → List Bool
vlan_tag_held (Some value) = vlan_tag_bits value
vlan_tag_held None = []
