-- Made by `./format` from formats/icmp_gateway.fields: edit that file and make this one anew.
use Rattle.bitstream_io.proofs.CallerLemmas.{plainly_read}
use Rattle.protocols.proofs.icmp_gateway.IcmpGatewayFromBitStream.from_reader.Goals as goal

pub returns : goal.returns
returns g c = record { reads = plainly_read c.read.ensures }
