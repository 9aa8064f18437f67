-- Made by `./format` from formats/coap_header.fields: edit that file and make this one anew.
use Rattle.protocols.proofs.coap_header.CoapHeaderFromBitStreamUsing.from_reader.Goals as goal

pub returns : goal.returns
returns g c = record { reads = c.read.ensures }
