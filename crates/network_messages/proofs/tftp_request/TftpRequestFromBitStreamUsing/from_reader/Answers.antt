-- Made by `./format` from formats/tftp_request.fields: edit that file and make this one anew.
use Rattle.network_messages.proofs.tftp_request.TftpRequestFromBitStreamUsing.from_reader.Goals as goal

pub returns : goal.returns
returns g c = record { reads = c.read.ensures }
