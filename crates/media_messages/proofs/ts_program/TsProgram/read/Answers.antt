-- Made by `./format` from formats/ts_program.fields: edit that file and make this one anew.
use Rattle.std.proofs.Common.{refl}
use Rattle.bitstream_io.proofs.CallerLemmas.{next_own_read as next, next_own_const as next_const, exit_own_read as exit, exit_own_const as exit_const}
use Rattle.bitstream_io.proofs.OwnSteps.{own_end}
use Rattle.media_messages.proofs.ts_program.TsProgram.read.Goals as goal

pub returns-in_err-program : goal.returns-in_err-program
returns-in_err-program g c = exit _ c.from_residual.ensures.1 c.in_err-program.ensures.reads

pub returns-in_err-read_const : goal.returns-in_err-read_const
returns-in_err-read_const g c = next _ c.in_ok-program.ensures.reads (exit_const _ _
    c.from_residual-in_err-read_const.ensures.1 c.in_err-read_const.ensures.reads refl)

pub returns-in_err-packets : goal.returns-in_err-packets
returns-in_err-packets g c = next _ c.in_ok-program.ensures.reads (next_const _ _ c.in_ok-read_const.ensures.reads (exit
    _ c.from_residual-in_err-packets.ensures.1 c.in_err-packets.ensures.reads))

pub returns : goal.returns
returns g c = next _ c.in_ok-program.ensures.reads (next_const _ _ c.in_ok-read_const.ensures.reads (next _
    c.in_ok-packets.ensures.reads (own_end _ _)))
