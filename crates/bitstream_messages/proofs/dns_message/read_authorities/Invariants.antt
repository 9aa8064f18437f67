-- Made by `./format` from formats/dns_message.fields: edit that file and make this one anew.
use Rattle.bitstream_messages.specs.DnsMessage.{becomes_dns_message, dns_record_here}
use Rattle.bitstream_io.specs.Grows.{PartsRead}
use Rattle.bitstream_messages.proofs.dns_message.read_authorities.Given as goal

-- the items so far were read
abbrev pub invariant-loop : goal.invariant-loop
invariant-loop g l =
    let K = g.R.BitRead.source in
    PartsRead K becomes_dns_message (dns_record_here K.order) l.counter l.initial.reader l.found.items l.reader
