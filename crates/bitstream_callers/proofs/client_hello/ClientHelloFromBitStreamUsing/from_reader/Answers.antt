-- Made by `./format` from formats/client_hello.fields: edit that file and make this one anew.
use Rattle.bitstream_callers.proofs.client_hello.ClientHelloFromBitStreamUsing.from_reader.Goals as goal

pub returns : goal.returns
returns g c = record { reads = c.read.ensures }
