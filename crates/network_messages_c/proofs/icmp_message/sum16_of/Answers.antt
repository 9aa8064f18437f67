-- Made by `./format --c` from ../network_messages/formats/icmp_message.fields: edit that file and make this one anew.
use Rattle.std.proofs.Common.{◌-◌, ℕ, ap}
use Rattle.bitstream_format.proofs.ChecksLemmas.{sum-then}
use Rattle.network_messages_c.proofs.icmp_message.sum16_of.Goals as goal

pub returns : goal.returns
returns c = ap (λ (sum : ℕ). 65535 - sum) (sum-then 0 0 _ _ _ _ (sum-then 0 0 _ _ _ _ (sum-then 0 0 _ _ _ _ (sum-then 0 0 _ _ _ _ ((rw c.octets_of_u8-octets_1.ensures at c.sum16_more-state_1.ensures)) (rw c.octets_of_u8-octets_2.ensures at c.sum16_more-state_2.ensures)) (rw c.octets_of_u16-octets_3.ensures at c.sum16_more-state_3.ensures)) (rw c.octets_of_u16-octets_4.ensures at c.sum16_more-state_4.ensures)) c.sum16_more-state_5.ensures)
