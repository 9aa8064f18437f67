-- Made by `./format` from formats/ipv4_pseudo.fields: edit that file and make this one anew.
use Rattle.bitstream_io.proofs.CallerLemmas.{plainly_read}
use Rattle.network_messages.proofs.ipv4_pseudo.Ipv4PseudoFromBitStream.from_reader.Goals as goal

pub returns : goal.returns
returns g c = record { reads = plainly_read c.read.ensures }
