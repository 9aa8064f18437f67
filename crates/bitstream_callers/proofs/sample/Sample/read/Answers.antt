-- Made by `./format` from formats/sample.fields: edit that file and make this one anew.
use borrow.Author.Rules.{sfits_of}
use Rattle.bitstream_io.proofs.ReadSteps.{next_signed_read}
use Rattle.bitstream_io.proofs.ReadsLemmas.{Reads-and_then-ok as next, Reads-pure, exit}
use Rattle.bitstream_callers.proofs.sample.Sample.read.Goals as goal

pub returns-in_err-seconds : goal.returns-in_err-seconds
returns-in_err-seconds g c = exit _ _ c.from_residual.ensures.1 c.in_err-seconds.ensures.reads

pub returns-in_err-running : goal.returns-in_err-running
returns-in_err-running g c = next _ _ c.in_ok-seconds.ensures.reads (exit _ _ c.from_residual-in_err-running.ensures.1
    c.in_err-running.ensures.reads)

pub returns-in_err-temperature : goal.returns-in_err-temperature
returns-in_err-temperature g c = next _ _ c.in_ok-seconds.ensures.reads (next _ _ c.in_ok-running.ensures.reads (exit _
    _ c.from_residual-in_err-temperature.ensures.1 c.in_err-temperature.ensures.reads))

pub returns-in_err-pressure : goal.returns-in_err-pressure
returns-in_err-pressure g c = next _ _ c.in_ok-seconds.ensures.reads (next _ _ c.in_ok-running.ensures.reads
    (next_signed_read _ _ _ _ c.in_ok-temperature.ensures.reads (search (sfits_of, c.in_ok-temperature)) (exit _ _
    c.from_residual-in_err-pressure.ensures.1 c.in_err-pressure.ensures.reads)))

pub returns : goal.returns
returns g c = next _ _ c.in_ok-seconds.ensures.reads (next _ _ c.in_ok-running.ensures.reads (next_signed_read _ _ _ _
    c.in_ok-temperature.ensures.reads (search (sfits_of, c.in_ok-temperature)) (next _ _ c.in_ok-pressure.ensures.reads
    (Reads-pure _ _))))
