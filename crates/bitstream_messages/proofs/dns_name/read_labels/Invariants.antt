-- Made by `./format` from formats/dns_name.fields: edit that file and make this one anew.
use Rattle.bitstream_messages.specs.DnsName.{becomes_dns_name, labels_last, dns_label_here}
use Rattle.bitstream_format.proofs.UpToLastLemmas.{UpToLastSoFar}
use Rattle.bitstream_messages.proofs.dns_name.read_labels.Given as goal

-- the parts so far were read, and none of them is the last one
abbrev pub invariant-loop : goal.invariant-loop
invariant-loop g l =
    let K = g.R.BitRead.source in
    UpToLastSoFar K becomes_dns_name (dns_label_here K.order) labels_last l.counter l.initial.reader l.found.items
    l.reader
