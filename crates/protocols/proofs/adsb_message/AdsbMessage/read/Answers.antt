-- Made by `./format` from formats/adsb_message.fields: edit that file and make this one anew.
use Rattle.std.proofs.Common.{refl}
use Rattle.bitstream_io.proofs.CallerLemmas.{next_own_read as next, next_own_const as next_const, exit_own_read as exit, exit_own_const as exit_const}
use Rattle.bitstream_io.proofs.OwnSteps.{own_end}
use Rattle.protocols.proofs.adsb_message.AdsbMessage.read.Goals as goal

pub returns-in_err-read_const : goal.returns-in_err-read_const
returns-in_err-read_const g c = exit_const _ _ c.from_residual.ensures.1 c.in_err-read_const.ensures.reads refl

pub returns-in_err-capability : goal.returns-in_err-capability
returns-in_err-capability g c = next_const _ _ c.in_ok-read_const.ensures.reads (exit _
    c.from_residual-in_err-capability.ensures.1 c.in_err-capability.ensures.reads)

pub returns-in_err-aircraft : goal.returns-in_err-aircraft
returns-in_err-aircraft g c = next_const _ _ c.in_ok-read_const.ensures.reads (next _ c.in_ok-capability.ensures.reads
    (exit _ c.from_residual-in_err-aircraft.ensures.1 c.in_err-aircraft.ensures.reads))

pub returns-in_err-kind : goal.returns-in_err-kind
returns-in_err-kind g c = next_const _ _ c.in_ok-read_const.ensures.reads (next _ c.in_ok-capability.ensures.reads (next
    _ c.in_ok-aircraft.ensures.reads (exit _ c.from_residual-in_err-kind.ensures.1 c.in_err-kind.ensures.reads)))

pub returns-in_err-message : goal.returns-in_err-message
returns-in_err-message g c = next_const _ _ c.in_ok-read_const.ensures.reads (next _ c.in_ok-capability.ensures.reads
    (next _ c.in_ok-aircraft.ensures.reads (next _ c.in_ok-kind.ensures.reads (exit _
    c.from_residual-in_err-message.ensures.1 c.in_err-message.ensures.reads))))

pub returns-in_err-parity : goal.returns-in_err-parity
returns-in_err-parity g c = next_const _ _ c.in_ok-read_const.ensures.reads (next _ c.in_ok-capability.ensures.reads
    (next _ c.in_ok-aircraft.ensures.reads (next _ c.in_ok-kind.ensures.reads (next _ c.in_ok-message.ensures.reads
    (exit _ c.from_residual-in_err-parity.ensures.1 c.in_err-parity.ensures.reads)))))

pub returns : goal.returns
returns g c = next_const _ _ c.in_ok-read_const.ensures.reads (next _ c.in_ok-capability.ensures.reads (next _
    c.in_ok-aircraft.ensures.reads (next _ c.in_ok-kind.ensures.reads (next _ c.in_ok-message.ensures.reads (next _
    c.in_ok-parity.ensures.reads (own_end _ _))))))
