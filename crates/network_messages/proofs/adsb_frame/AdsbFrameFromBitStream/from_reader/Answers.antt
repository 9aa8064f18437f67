-- Made by `./format` from formats/adsb_frame.fields: edit that file and make this one anew.
use Rattle.network_messages.proofs.adsb_frame.AdsbFrameFromBitStream.from_reader.Goals as goal

pub returns : goal.returns
returns g c = record { reads = c.read.ensures }
