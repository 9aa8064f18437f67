-- Made by `./format` from formats/mqtt_header.fields: edit that file and make this one anew.
use Rattle.std.proofs.Common.{refl}
use Rattle.bitstream_io.proofs.CallerLemmas.{next_own_read as next, exit_own_read as exit}
use Rattle.bitstream_io.proofs.OwnSteps.{then_part, end_part, own_end}
use Rattle.protocols.proofs.mqtt_header.MqttHeader.read.Goals as goal

pub returns-in_err-kind : goal.returns-in_err-kind
returns-in_err-kind g c = end_part _ c.in_err-kind.ensures refl refl c.from_residual.ensures.1

pub returns-in_err-again : goal.returns-in_err-again
returns-in_err-again g c = then_part _ c.in_ok-kind.ensures refl refl (exit _ c.from_residual-in_err-again.ensures.1
    c.in_err-again.ensures.reads)

pub returns-in_err-quality : goal.returns-in_err-quality
returns-in_err-quality g c = then_part _ c.in_ok-kind.ensures refl refl (next _ c.in_ok-again.ensures.reads (exit _
    c.from_residual-in_err-quality.ensures.1 c.in_err-quality.ensures.reads))

pub returns-in_err-retain : goal.returns-in_err-retain
returns-in_err-retain g c = then_part _ c.in_ok-kind.ensures refl refl (next _ c.in_ok-again.ensures.reads (next _
    c.in_ok-quality.ensures.reads (exit _ c.from_residual-in_err-retain.ensures.1 c.in_err-retain.ensures.reads)))

pub returns-in_err-remaining : goal.returns-in_err-remaining
returns-in_err-remaining g c = then_part _ c.in_ok-kind.ensures refl refl (next _ c.in_ok-again.ensures.reads (next _
    c.in_ok-quality.ensures.reads (next _ c.in_ok-retain.ensures.reads (exit _
    c.from_residual-in_err-remaining.ensures.1 c.in_err-remaining.ensures.reads))))

pub returns : goal.returns
returns g c = then_part _ c.in_ok-kind.ensures refl refl (next _ c.in_ok-again.ensures.reads (next _
    c.in_ok-quality.ensures.reads (next _ c.in_ok-retain.ensures.reads (next _ c.in_ok-remaining.ensures.reads (own_end
    _ _)))))
