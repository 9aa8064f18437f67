-- Made by `./format` from formats/modbus_header.fields: edit that file and make this one anew.
use Rattle.std.proofs.Common.{refl}
use Rattle.bitstream_io.proofs.CallerLemmas.{next_own_read as next, next_own_const as next_const, exit_own_read as exit, exit_own_const as exit_const}
use Rattle.bitstream_io.proofs.OwnSteps.{own_end}
use Rattle.protocols.proofs.modbus_header.ModbusHeader.read.Goals as goal

pub returns-in_err-transaction : goal.returns-in_err-transaction
returns-in_err-transaction g c = exit _ c.from_residual.ensures.1 c.in_err-transaction.ensures.reads

pub returns-in_err-read_const : goal.returns-in_err-read_const
returns-in_err-read_const g c = next _ c.in_ok-transaction.ensures.reads (exit_const _ _
    c.from_residual-in_err-read_const.ensures.1 c.in_err-read_const.ensures.reads refl)

pub returns-in_err-size : goal.returns-in_err-size
returns-in_err-size g c = next _ c.in_ok-transaction.ensures.reads (next_const _ _ c.in_ok-read_const.ensures.reads
    (exit _ c.from_residual-in_err-size.ensures.1 c.in_err-size.ensures.reads))

pub returns-in_err-unit : goal.returns-in_err-unit
returns-in_err-unit g c = next _ c.in_ok-transaction.ensures.reads (next_const _ _ c.in_ok-read_const.ensures.reads
    (next _ c.in_ok-size.ensures.reads (exit _ c.from_residual-in_err-unit.ensures.1 c.in_err-unit.ensures.reads)))

pub returns-in_err-refused : goal.returns-in_err-refused
returns-in_err-refused g c = next _ c.in_ok-transaction.ensures.reads (next_const _ _ c.in_ok-read_const.ensures.reads
    (next _ c.in_ok-size.ensures.reads (next _ c.in_ok-unit.ensures.reads (exit _
    c.from_residual-in_err-refused.ensures.1 c.in_err-refused.ensures.reads))))

pub returns-in_err-function : goal.returns-in_err-function
returns-in_err-function g c = next _ c.in_ok-transaction.ensures.reads (next_const _ _ c.in_ok-read_const.ensures.reads
    (next _ c.in_ok-size.ensures.reads (next _ c.in_ok-unit.ensures.reads (next _ c.in_ok-refused.ensures.reads (exit _
    c.from_residual-in_err-function.ensures.1 c.in_err-function.ensures.reads)))))

pub returns : goal.returns
returns g c = next _ c.in_ok-transaction.ensures.reads (next_const _ _ c.in_ok-read_const.ensures.reads (next _
    c.in_ok-size.ensures.reads (next _ c.in_ok-unit.ensures.reads (next _ c.in_ok-refused.ensures.reads (next _
    c.in_ok-function.ensures.reads (own_end _ _))))))
