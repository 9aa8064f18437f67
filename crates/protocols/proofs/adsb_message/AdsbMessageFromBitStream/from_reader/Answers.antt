-- Made by `./format` from formats/adsb_message.fields: edit that file and make this one anew.
use Rattle.protocols.proofs.adsb_message.AdsbMessageFromBitStream.from_reader.Goals as goal

pub returns : goal.returns
returns g c = record { reads = c.read.ensures }
