-- Made by `./format` from formats/adsb_message.fields: edit that file and make this one anew.
use Rattle.protocols.proofs.AdsbMessageLemmas.{adsb_message_goes, adsb_message_packs}
use Rattle.protocols.proofs.adsb_message.adsb_message_round_trip.Goals as goal

pub returns-clause-back : goal.returns-clause-back
returns-clause-back c = λ o value at from more fits. (adsb_message_goes o value fits).back at from more

pub returns-clause-size : goal.returns-clause-size
returns-clause-size c = λ o value at fits. (adsb_message_packs o value fits).size at
