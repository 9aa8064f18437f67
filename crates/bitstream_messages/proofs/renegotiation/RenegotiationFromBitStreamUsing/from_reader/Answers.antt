-- Made by `./format` from formats/renegotiation.fields: edit that file and make this one anew.
use Rattle.bitstream_messages.proofs.renegotiation.RenegotiationFromBitStreamUsing.from_reader.Goals as goal

pub returns : goal.returns
returns g c = record { reads = c.read.ensures }
