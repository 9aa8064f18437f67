-- Made by `./format` from formats/mqtt_header.fields: edit that file and make this one anew.
use Rattle.protocols.proofs.MqttHeaderLemmas.{mqtt_header_goes, mqtt_header_packs}
use Rattle.protocols.proofs.mqtt_header.mqtt_header_round_trip.Goals as goal

pub returns-clause-back : goal.returns-clause-back
returns-clause-back c = λ o value at from more fits. (mqtt_header_goes o value fits).back at from more

pub returns-clause-size : goal.returns-clause-size
returns-clause-size c = λ o value at fits. (mqtt_header_packs o value fits).size at
