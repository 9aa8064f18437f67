-- Made by `./format` from formats/ntp_timestamp.fields: edit that file and make this one anew.
use Rattle.bitstream_io.proofs.ReadsLemmas.{Reads-and_then-ok as next, Reads-pure, exit}
use Rattle.protocols.proofs.ntp_timestamp.NtpTimestamp.read.Goals as goal

pub returns-in_err-seconds : goal.returns-in_err-seconds
returns-in_err-seconds g c = exit _ _ c.from_residual.ensures.1 c.in_err-seconds.ensures.reads

pub returns-in_err-fraction : goal.returns-in_err-fraction
returns-in_err-fraction g c = next _ _ c.in_ok-seconds.ensures.reads (exit _ _ c.from_residual-in_err-fraction.ensures.1
    c.in_err-fraction.ensures.reads)

pub returns : goal.returns
returns g c = next _ _ c.in_ok-seconds.ensures.reads (next _ _ c.in_ok-fraction.ensures.reads (Reads-pure _ _))
