-- Made by `./format` from formats/event.fields: edit that file and make this one anew.
use Rattle.std.proofs.Common.{refl}
use Rattle.bitstream_io.proofs.OwnSteps.{then_part, end_part, own_end}
use Rattle.bitstream_messages.proofs.event.Event.read.Goals as goal

pub returns-in_err-kind : goal.returns-in_err-kind
returns-in_err-kind g c = end_part _ c.in_err-kind.ensures refl refl c.from_residual.ensures.1

pub returns-in_err-what : goal.returns-in_err-what
returns-in_err-what g c = then_part _ c.in_ok-kind.ensures refl refl (end_part _ (rw c.number.ensures at
    c.in_err-what.ensures) refl refl c.from_residual-in_err-what.ensures.1)

pub returns : goal.returns
returns g c = then_part _ c.in_ok-kind.ensures refl refl (then_part _ (rw c.number.ensures at c.in_ok-what.ensures) refl
    refl (own_end _ _))
