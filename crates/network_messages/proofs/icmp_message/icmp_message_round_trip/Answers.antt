-- Made by `./format` from formats/icmp_message.fields: edit that file and make this one anew.
use Rattle.network_messages.proofs.IcmpMessageLemmas.{icmp_message_goes, icmp_message_packs}
use Rattle.network_messages.proofs.icmp_message.icmp_message_round_trip.Goals as goal

pub returns-clause-back : goal.returns-clause-back
returns-clause-back c = λ o value at from more fits. (icmp_message_goes o value fits).back at from more

pub returns-clause-size : goal.returns-clause-size
returns-clause-size c = λ o value at fits. (icmp_message_packs o value fits).size at
