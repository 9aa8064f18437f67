-- Made by `./format` from formats/vlan_tag.fields: edit that file and make this one anew.
-- Worked rows of a `VlanTag`.
use Rattle.protocols.specs.VlanTag.{vlan_tag_decoder, vlan_tag_writes}
use Rattle.bitstream_io.specs.Codec.{and_then}
use Rattle.bitstream_io.specs.Word.{digits, digits_number}
use Rattle.bitstream_io.specs.WriteTable.{unsigned}
use Rattle.bitstream_io.specs.ReadTable.{unsigned_decoder}
use Rattle.protocols.specs.declared.vlan_tag.VlanTag.{VlanTag}
use Rattle.std.proofs.Common.{◌≡◌, ◌++◌, ◌∷◌, [], ℕ, false, List, Ok, length, refl}
use Rattle.bitstream_io.specs.Callers.{Done, High, bits, align, write_sequence}

row_0 : List ℕ
row_0 = 160 ∷ 42 ∷ 8 ∷ 0 ∷ []

value_0 : VlanTag
value_0 = record {
  priority = 5;
  drop_eligible = false;
  vlan = 42;
  kind = 2048;
}

written_0 : (write_sequence (vlan_tag_writes High value_0 ++ align ∷ []) 0 ≡ bits High row_0)
    × ((vlan_tag_decoder High).reads 0 (bits High row_0)
    ≡ Done (length (write_sequence (vlan_tag_writes High value_0) 0)) (Ok value_0))
unfolding row_0 value_0 and_then digits digits_number unsigned unsigned_decoder
written_0 = (refl, refl)
