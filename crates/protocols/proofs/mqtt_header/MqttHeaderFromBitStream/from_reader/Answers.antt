-- Made by `./format` from formats/mqtt_header.fields: edit that file and make this one anew.
use Rattle.protocols.proofs.mqtt_header.MqttHeaderFromBitStream.from_reader.Goals as goal

pub returns : goal.returns
returns g c = record { reads = c.read.ensures }
