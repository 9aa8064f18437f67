-- Made by `./format` from formats/rtp_extension.fields: edit that file and make this one anew.
use Rattle.network_messages.proofs.rtp_extension.RtpExtensionFromBitStreamUsing.from_reader.Goals as goal

pub returns : goal.returns
returns g c = record { reads = c.read.ensures }
