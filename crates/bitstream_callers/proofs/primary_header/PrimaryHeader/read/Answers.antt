-- Made by `./format` from formats/primary_header.fields: edit that file and make this one anew.
use Rattle.std.proofs.Common.{refl}
use Rattle.bitstream_io.proofs.CallerLemmas.{next_own_read as next, next_own_const as next_const, exit_own_read as exit, exit_own_const as exit_const}
use Rattle.bitstream_io.proofs.OwnSteps.{own_end}
use Rattle.bitstream_callers.proofs.primary_header.PrimaryHeader.read.Goals as goal

pub returns-in_err-read_const : goal.returns-in_err-read_const
returns-in_err-read_const g c = exit_const _ _ c.from_residual.ensures.1 c.in_err-read_const.ensures.reads refl

pub returns-in_err-telecommand : goal.returns-in_err-telecommand
returns-in_err-telecommand g c = next_const _ _ c.in_ok-read_const.ensures.reads (exit _
    c.from_residual-in_err-telecommand.ensures.1 c.in_err-telecommand.ensures.reads)

pub returns-in_err-secondary : goal.returns-in_err-secondary
returns-in_err-secondary g c = next_const _ _ c.in_ok-read_const.ensures.reads (next _ c.in_ok-telecommand.ensures.reads
    (exit _ c.from_residual-in_err-secondary.ensures.1 c.in_err-secondary.ensures.reads))

pub returns-in_err-apid : goal.returns-in_err-apid
returns-in_err-apid g c = next_const _ _ c.in_ok-read_const.ensures.reads (next _ c.in_ok-telecommand.ensures.reads
    (next _ c.in_ok-secondary.ensures.reads (exit _ c.from_residual-in_err-apid.ensures.1 c.in_err-apid.ensures.reads)))

pub returns-in_err-sequence : goal.returns-in_err-sequence
returns-in_err-sequence g c = next_const _ _ c.in_ok-read_const.ensures.reads (next _ c.in_ok-telecommand.ensures.reads
    (next _ c.in_ok-secondary.ensures.reads (next _ c.in_ok-apid.ensures.reads (exit _
    c.from_residual-in_err-sequence.ensures.1 c.in_err-sequence.ensures.reads))))

pub returns-in_err-count : goal.returns-in_err-count
returns-in_err-count g c = next_const _ _ c.in_ok-read_const.ensures.reads (next _ c.in_ok-telecommand.ensures.reads
    (next _ c.in_ok-secondary.ensures.reads (next _ c.in_ok-apid.ensures.reads (next _ c.in_ok-sequence.ensures.reads
    (exit _ c.from_residual-in_err-count.ensures.1 c.in_err-count.ensures.reads)))))

pub returns-in_err-length : goal.returns-in_err-length
returns-in_err-length g c = next_const _ _ c.in_ok-read_const.ensures.reads (next _ c.in_ok-telecommand.ensures.reads
    (next _ c.in_ok-secondary.ensures.reads (next _ c.in_ok-apid.ensures.reads (next _ c.in_ok-sequence.ensures.reads
    (next _ c.in_ok-count.ensures.reads (exit _ c.from_residual-in_err-length.ensures.1
    c.in_err-length.ensures.reads))))))

pub returns : goal.returns
returns g c = next_const _ _ c.in_ok-read_const.ensures.reads (next _ c.in_ok-telecommand.ensures.reads (next _
    c.in_ok-secondary.ensures.reads (next _ c.in_ok-apid.ensures.reads (next _ c.in_ok-sequence.ensures.reads (next _
    c.in_ok-count.ensures.reads (next _ c.in_ok-length.ensures.reads (own_end _ _)))))))
