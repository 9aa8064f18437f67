-- Made by `./format` from formats/dns_pointer.fields: edit that file and make this one anew.
use Rattle.bitstream_io.proofs.CallerLemmas.{plainly_read}
use Rattle.bitstream_messages.proofs.dns_pointer.DnsPointerFromBitStream.from_reader.Goals as goal

pub returns : goal.returns
returns g c = record { reads = plainly_read c.read.ensures }
