-- Made by `./format` from formats/j1939_frame.fields: edit that file and make this one anew.
use Rattle.std.proofs.Common.{refl}
use Rattle.bitstream_io.proofs.CallerLemmas.{next_own_read as next, next_own_const as next_const, exit_own_read as exit, exit_own_const as exit_const}
use Rattle.bitstream_io.proofs.OwnSteps.{own_end}
use Rattle.protocols.proofs.j1939_frame.J1939Frame.read.Goals as goal

pub returns-in_err-read_const : goal.returns-in_err-read_const
returns-in_err-read_const g c = exit_const _ _ c.from_residual.ensures.1 c.in_err-read_const.ensures.reads refl

pub returns-in_err-priority : goal.returns-in_err-priority
returns-in_err-priority g c = next_const _ _ c.in_ok-read_const.ensures.reads (exit _
    c.from_residual-in_err-priority.ensures.1 c.in_err-priority.ensures.reads)

pub returns-in_err-extended_page : goal.returns-in_err-extended_page
returns-in_err-extended_page g c = next_const _ _ c.in_ok-read_const.ensures.reads (next _
    c.in_ok-priority.ensures.reads (exit _ c.from_residual-in_err-extended_page.ensures.1
    c.in_err-extended_page.ensures.reads))

pub returns-in_err-page : goal.returns-in_err-page
returns-in_err-page g c = next_const _ _ c.in_ok-read_const.ensures.reads (next _ c.in_ok-priority.ensures.reads (next _
    c.in_ok-extended_page.ensures.reads (exit _ c.from_residual-in_err-page.ensures.1 c.in_err-page.ensures.reads)))

pub returns-in_err-format : goal.returns-in_err-format
returns-in_err-format g c = next_const _ _ c.in_ok-read_const.ensures.reads (next _ c.in_ok-priority.ensures.reads (next
    _ c.in_ok-extended_page.ensures.reads (next _ c.in_ok-page.ensures.reads (exit _
    c.from_residual-in_err-format.ensures.1 c.in_err-format.ensures.reads))))

pub returns-in_err-specific : goal.returns-in_err-specific
returns-in_err-specific g c = next_const _ _ c.in_ok-read_const.ensures.reads (next _ c.in_ok-priority.ensures.reads
    (next _ c.in_ok-extended_page.ensures.reads (next _ c.in_ok-page.ensures.reads (next _ c.in_ok-format.ensures.reads
    (exit _ c.from_residual-in_err-specific.ensures.1 c.in_err-specific.ensures.reads)))))

pub returns-in_err-source : goal.returns-in_err-source
returns-in_err-source g c = next_const _ _ c.in_ok-read_const.ensures.reads (next _ c.in_ok-priority.ensures.reads (next
    _ c.in_ok-extended_page.ensures.reads (next _ c.in_ok-page.ensures.reads (next _ c.in_ok-format.ensures.reads (next
    _ c.in_ok-specific.ensures.reads (exit _ c.from_residual-in_err-source.ensures.1 c.in_err-source.ensures.reads))))))

pub returns-in_err-read_const-2 : goal.returns-in_err-read_const-2
returns-in_err-read_const-2 g c = next_const _ _ c.in_ok-read_const.ensures.reads (next _ c.in_ok-priority.ensures.reads
    (next _ c.in_ok-extended_page.ensures.reads (next _ c.in_ok-page.ensures.reads (next _ c.in_ok-format.ensures.reads
    (next _ c.in_ok-specific.ensures.reads (next _ c.in_ok-source.ensures.reads (exit_const _ _
    c.from_residual-in_err-read_const-2.ensures.1 c.in_err-read_const-2.ensures.reads refl)))))))

pub returns-in_err-skip : goal.returns-in_err-skip
returns-in_err-skip g c = next_const _ _ c.in_ok-read_const.ensures.reads (next _ c.in_ok-priority.ensures.reads (next _
    c.in_ok-extended_page.ensures.reads (next _ c.in_ok-page.ensures.reads (next _ c.in_ok-format.ensures.reads (next _
    c.in_ok-specific.ensures.reads (next _ c.in_ok-source.ensures.reads (next_const _ _
    c.in_ok-read_const-2.ensures.reads (exit _ c.from_residual-in_err-skip.ensures.1 c.in_err-skip.ensures.reads))))))))

pub returns-in_err-payload : goal.returns-in_err-payload
returns-in_err-payload g c = next_const _ _ c.in_ok-read_const.ensures.reads (next _ c.in_ok-priority.ensures.reads
    (next _ c.in_ok-extended_page.ensures.reads (next _ c.in_ok-page.ensures.reads (next _ c.in_ok-format.ensures.reads
    (next _ c.in_ok-specific.ensures.reads (next _ c.in_ok-source.ensures.reads (next_const _ _
    c.in_ok-read_const-2.ensures.reads (next _ c.in_ok-skip.ensures.reads (exit _
    c.from_residual-in_err-payload.ensures.1 c.in_err-payload.ensures.reads)))))))))

pub returns : goal.returns
returns g c = next_const _ _ c.in_ok-read_const.ensures.reads (next _ c.in_ok-priority.ensures.reads (next _
    c.in_ok-extended_page.ensures.reads (next _ c.in_ok-page.ensures.reads (next _ c.in_ok-format.ensures.reads (next _
    c.in_ok-specific.ensures.reads (next _ c.in_ok-source.ensures.reads (next_const _ _
    c.in_ok-read_const-2.ensures.reads (next _ c.in_ok-skip.ensures.reads (next _ c.in_ok-payload.ensures.reads (own_end
    _ _))))))))))
