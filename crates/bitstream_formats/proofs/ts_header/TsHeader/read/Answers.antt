-- Made by `./format` from formats/ts_header.fields: edit that file and make this one anew.
use Rattle.std.proofs.Common.{refl}
use Rattle.bitstream_io.proofs.CallerLemmas.{next_own_read as next, next_own_const as next_const, exit_own_read as exit, exit_own_const as exit_const}
use Rattle.bitstream_io.proofs.OwnSteps.{own_end}
use Rattle.bitstream_formats.proofs.ts_header.TsHeader.read.Goals as goal

pub returns-in_err-read_const : goal.returns-in_err-read_const
returns-in_err-read_const g c = exit_const _ _ c.from_residual.ensures.1 c.in_err-read_const.ensures.reads refl

pub returns-in_err-damaged : goal.returns-in_err-damaged
returns-in_err-damaged g c = next_const _ _ c.in_ok-read_const.ensures.reads (exit _
    c.from_residual-in_err-damaged.ensures.1 c.in_err-damaged.ensures.reads)

pub returns-in_err-starts : goal.returns-in_err-starts
returns-in_err-starts g c = next_const _ _ c.in_ok-read_const.ensures.reads (next _ c.in_ok-damaged.ensures.reads (exit
    _ c.from_residual-in_err-starts.ensures.1 c.in_err-starts.ensures.reads))

pub returns-in_err-priority : goal.returns-in_err-priority
returns-in_err-priority g c = next_const _ _ c.in_ok-read_const.ensures.reads (next _ c.in_ok-damaged.ensures.reads
    (next _ c.in_ok-starts.ensures.reads (exit _ c.from_residual-in_err-priority.ensures.1
    c.in_err-priority.ensures.reads)))

pub returns-in_err-pid : goal.returns-in_err-pid
returns-in_err-pid g c = next_const _ _ c.in_ok-read_const.ensures.reads (next _ c.in_ok-damaged.ensures.reads (next _
    c.in_ok-starts.ensures.reads (next _ c.in_ok-priority.ensures.reads (exit _ c.from_residual-in_err-pid.ensures.1
    c.in_err-pid.ensures.reads))))

pub returns-in_err-scrambling : goal.returns-in_err-scrambling
returns-in_err-scrambling g c = next_const _ _ c.in_ok-read_const.ensures.reads (next _ c.in_ok-damaged.ensures.reads
    (next _ c.in_ok-starts.ensures.reads (next _ c.in_ok-priority.ensures.reads (next _ c.in_ok-pid.ensures.reads (exit
    _ c.from_residual-in_err-scrambling.ensures.1 c.in_err-scrambling.ensures.reads)))))

pub returns-in_err-adapted : goal.returns-in_err-adapted
returns-in_err-adapted g c = next_const _ _ c.in_ok-read_const.ensures.reads (next _ c.in_ok-damaged.ensures.reads (next
    _ c.in_ok-starts.ensures.reads (next _ c.in_ok-priority.ensures.reads (next _ c.in_ok-pid.ensures.reads (next _
    c.in_ok-scrambling.ensures.reads (exit _ c.from_residual-in_err-adapted.ensures.1
    c.in_err-adapted.ensures.reads))))))

pub returns-in_err-payload : goal.returns-in_err-payload
returns-in_err-payload g c = next_const _ _ c.in_ok-read_const.ensures.reads (next _ c.in_ok-damaged.ensures.reads (next
    _ c.in_ok-starts.ensures.reads (next _ c.in_ok-priority.ensures.reads (next _ c.in_ok-pid.ensures.reads (next _
    c.in_ok-scrambling.ensures.reads (next _ c.in_ok-adapted.ensures.reads (exit _
    c.from_residual-in_err-payload.ensures.1 c.in_err-payload.ensures.reads)))))))

pub returns-in_err-continuity : goal.returns-in_err-continuity
returns-in_err-continuity g c = next_const _ _ c.in_ok-read_const.ensures.reads (next _ c.in_ok-damaged.ensures.reads
    (next _ c.in_ok-starts.ensures.reads (next _ c.in_ok-priority.ensures.reads (next _ c.in_ok-pid.ensures.reads (next
    _ c.in_ok-scrambling.ensures.reads (next _ c.in_ok-adapted.ensures.reads (next _ c.in_ok-payload.ensures.reads (exit
    _ c.from_residual-in_err-continuity.ensures.1 c.in_err-continuity.ensures.reads))))))))

pub returns : goal.returns
returns g c = next_const _ _ c.in_ok-read_const.ensures.reads (next _ c.in_ok-damaged.ensures.reads (next _
    c.in_ok-starts.ensures.reads (next _ c.in_ok-priority.ensures.reads (next _ c.in_ok-pid.ensures.reads (next _
    c.in_ok-scrambling.ensures.reads (next _ c.in_ok-adapted.ensures.reads (next _ c.in_ok-payload.ensures.reads (next _
    c.in_ok-continuity.ensures.reads (own_end _ _)))))))))
