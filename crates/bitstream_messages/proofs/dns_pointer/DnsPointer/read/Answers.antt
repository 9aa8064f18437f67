-- Made by `./format` from formats/dns_pointer.fields: edit that file and make this one anew.
use Rattle.bitstream_io.proofs.ReadsLemmas.{Reads-and_then-ok as next, Reads-pure, exit}
use Rattle.bitstream_messages.proofs.dns_pointer.DnsPointer.read.Goals as goal

pub returns-in_err-offset : goal.returns-in_err-offset
returns-in_err-offset g c = exit _ _ c.from_residual.ensures.1 c.in_err-offset.ensures.reads

pub returns : goal.returns
returns g c = next _ _ c.in_ok-offset.ensures.reads (Reads-pure _ _)
