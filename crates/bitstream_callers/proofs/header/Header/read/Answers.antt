-- Made by `./format` from formats/header.fields: edit that file and make this one anew.
use borrow.Author.Rules.{sfits_of}
use Rattle.bitstream_io.proofs.ReadSteps.{next_signed_read}
use Rattle.bitstream_io.proofs.ReadsLemmas.{Reads-and_then-ok as next, Reads-pure, exit}
use Rattle.bitstream_callers.proofs.header.Header.read.Goals as goal

pub returns-in_err-version : goal.returns-in_err-version
returns-in_err-version g c = exit _ _ c.from_residual.ensures.1 c.in_err-version.ensures.reads

pub returns-in_err-acknowledge : goal.returns-in_err-acknowledge
returns-in_err-acknowledge g c = next _ _ c.in_ok-version.ensures.reads (exit _ _
    c.from_residual-in_err-acknowledge.ensures.1 c.in_err-acknowledge.ensures.reads)

pub returns-in_err-priority : goal.returns-in_err-priority
returns-in_err-priority g c = next _ _ c.in_ok-version.ensures.reads (next _ _ c.in_ok-acknowledge.ensures.reads (exit _
    _ c.from_residual-in_err-priority.ensures.1 c.in_err-priority.ensures.reads))

pub returns-in_err-length : goal.returns-in_err-length
returns-in_err-length g c = next _ _ c.in_ok-version.ensures.reads (next _ _ c.in_ok-acknowledge.ensures.reads
    (next_signed_read _ _ _ _ c.in_ok-priority.ensures.reads (search (sfits_of, c.in_ok-priority)) (exit _ _
    c.from_residual-in_err-length.ensures.1 c.in_err-length.ensures.reads)))

pub returns : goal.returns
returns g c = next _ _ c.in_ok-version.ensures.reads (next _ _ c.in_ok-acknowledge.ensures.reads (next_signed_read _ _ _
    _ c.in_ok-priority.ensures.reads (search (sfits_of, c.in_ok-priority)) (next _ _ c.in_ok-length.ensures.reads
    (Reads-pure _ _))))
