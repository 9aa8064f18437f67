-- Made by `./format` from formats/vlan_tag.fields: edit that file and make this one anew.
use Rattle.protocols.proofs.VlanTagLemmas.{vlan_tag_goes, vlan_tag_packs}
use Rattle.protocols.proofs.vlan_tag.vlan_tag_round_trip.Goals as goal

pub returns-clause-back : goal.returns-clause-back
returns-clause-back c = λ o value at from more fits. (vlan_tag_goes o value fits).back at from more

pub returns-clause-size : goal.returns-clause-size
returns-clause-size c = λ o value at fits. (vlan_tag_packs o value fits).size at
