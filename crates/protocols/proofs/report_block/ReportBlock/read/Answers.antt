-- Made by `./format` from formats/report_block.fields: edit that file and make this one anew.
use borrow.Author.Rules.{sfits_of}
use Rattle.bitstream_io.proofs.ReadSteps.{next_signed_read}
use Rattle.bitstream_io.proofs.ReadsLemmas.{Reads-and_then-ok as next, Reads-pure, exit}
use Rattle.protocols.proofs.report_block.ReportBlock.read.Goals as goal

pub returns-in_err-ssrc : goal.returns-in_err-ssrc
returns-in_err-ssrc g c = exit _ _ c.from_residual.ensures.1 c.in_err-ssrc.ensures.reads

pub returns-in_err-fraction_lost : goal.returns-in_err-fraction_lost
returns-in_err-fraction_lost g c = next _ _ c.in_ok-ssrc.ensures.reads (exit _ _
    c.from_residual-in_err-fraction_lost.ensures.1 c.in_err-fraction_lost.ensures.reads)

pub returns-in_err-lost : goal.returns-in_err-lost
returns-in_err-lost g c = next _ _ c.in_ok-ssrc.ensures.reads (next _ _ c.in_ok-fraction_lost.ensures.reads (exit _ _
    c.from_residual-in_err-lost.ensures.1 c.in_err-lost.ensures.reads))

pub returns-in_err-highest : goal.returns-in_err-highest
returns-in_err-highest g c = next _ _ c.in_ok-ssrc.ensures.reads (next _ _ c.in_ok-fraction_lost.ensures.reads
    (next_signed_read _ _ _ _ c.in_ok-lost.ensures.reads (search (sfits_of, c.in_ok-lost)) (exit _ _
    c.from_residual-in_err-highest.ensures.1 c.in_err-highest.ensures.reads)))

pub returns-in_err-jitter : goal.returns-in_err-jitter
returns-in_err-jitter g c = next _ _ c.in_ok-ssrc.ensures.reads (next _ _ c.in_ok-fraction_lost.ensures.reads
    (next_signed_read _ _ _ _ c.in_ok-lost.ensures.reads (search (sfits_of, c.in_ok-lost)) (next _ _
    c.in_ok-highest.ensures.reads (exit _ _ c.from_residual-in_err-jitter.ensures.1 c.in_err-jitter.ensures.reads))))

pub returns-in_err-last_report : goal.returns-in_err-last_report
returns-in_err-last_report g c = next _ _ c.in_ok-ssrc.ensures.reads (next _ _ c.in_ok-fraction_lost.ensures.reads
    (next_signed_read _ _ _ _ c.in_ok-lost.ensures.reads (search (sfits_of, c.in_ok-lost)) (next _ _
    c.in_ok-highest.ensures.reads (next _ _ c.in_ok-jitter.ensures.reads (exit _ _
    c.from_residual-in_err-last_report.ensures.1 c.in_err-last_report.ensures.reads)))))

pub returns-in_err-delay : goal.returns-in_err-delay
returns-in_err-delay g c = next _ _ c.in_ok-ssrc.ensures.reads (next _ _ c.in_ok-fraction_lost.ensures.reads
    (next_signed_read _ _ _ _ c.in_ok-lost.ensures.reads (search (sfits_of, c.in_ok-lost)) (next _ _
    c.in_ok-highest.ensures.reads (next _ _ c.in_ok-jitter.ensures.reads (next _ _ c.in_ok-last_report.ensures.reads
    (exit _ _ c.from_residual-in_err-delay.ensures.1 c.in_err-delay.ensures.reads))))))

pub returns : goal.returns
returns g c = next _ _ c.in_ok-ssrc.ensures.reads (next _ _ c.in_ok-fraction_lost.ensures.reads (next_signed_read _ _ _
    _ c.in_ok-lost.ensures.reads (search (sfits_of, c.in_ok-lost)) (next _ _ c.in_ok-highest.ensures.reads (next _ _
    c.in_ok-jitter.ensures.reads (next _ _ c.in_ok-last_report.ensures.reads (next _ _ c.in_ok-delay.ensures.reads
    (Reads-pure _ _)))))))
