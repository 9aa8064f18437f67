-- Made by `./format` from formats/vlan_tag.fields: edit that file and make this one anew.
-- A written `VlanTag` is read back, and its number of bits.
use Rattle.protocols.specs.VlanTag.{vlan_tag_decoder, vlan_tag_writes, vlan_tag_size, vlan_tag_format, vlan_tag_bits, Fits}
use Rattle.protocols.specs.declared.vlan_tag.VlanTag.{VlanTag}
use Rattle.std.proofs.Common.{◌≡◌, ◌++◌, ◌∷◌, [], ℕ, refl}
use Rattle.bitstream_io.proofs.CallerLemmas.{RoundTrip, Packs}
use Rattle.bitstream_io.specs.Callers.{Order, High, align, write_sequence, AllAccepted}

-- a written value is read back
pub vlan_tag_goes : (o : Order) (value : VlanTag) → Fits value
    → RoundTrip (vlan_tag_decoder o) (vlan_tag_writes o value) value
vlan_tag_goes = vlan_tag_format.round_trip

-- each write is accepted, and the value's size is the number of bits written
pub vlan_tag_packs : (o : Order) (value : VlanTag) → Fits value
    → Packs (vlan_tag_writes o value) (vlan_tag_size o value)
vlan_tag_packs = vlan_tag_format.packs

-- each field fits if each write is accepted
pub vlan_tag_fits : (o : Order) (value : VlanTag) (at : ℕ) → AllAccepted (vlan_tag_writes o value) at → Fits value
vlan_tag_fits o value at = vlan_tag_format.accepted o value at tt

-- the bits, of which a search is to see no part
pub told : (value : VlanTag)
    → write_sequence (vlan_tag_writes High value ++ align ∷ []) 0 ≡ vlan_tag_bits value
unfolding vlan_tag_bits
told value = refl
