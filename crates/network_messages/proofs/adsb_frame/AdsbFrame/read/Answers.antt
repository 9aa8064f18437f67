-- Made by `./format` from formats/adsb_frame.fields: edit that file and make this one anew.
use Rattle.std.proofs.Common.{refl}
use Rattle.std.proofs.lemmas.Bool.{eq-eqb, ne_eqb}
use Rattle.bitstream_io.proofs.CallerLemmas.{next_own_read as next, next_own_const as next_const, exit_own_read as exit, exit_own_const as exit_const}
use Rattle.bitstream_io.proofs.OwnSteps.{if_own, else_own, own_end}
use Rattle.network_messages.proofs.adsb_frame.AdsbFrame.read.Goals as goal

pub returns-in_err-read_const : goal.returns-in_err-read_const
returns-in_err-read_const g c = exit_const _ _ c.from_residual.ensures.1 c.in_err-read_const.ensures.reads refl

pub returns-in_err-capability : goal.returns-in_err-capability
returns-in_err-capability g c = next_const _ _ c.in_ok-read_const.ensures.reads (exit _
    c.from_residual-in_err-capability.ensures.1 c.in_err-capability.ensures.reads)

pub returns-in_err-aircraft : goal.returns-in_err-aircraft
returns-in_err-aircraft g c = next_const _ _ c.in_ok-read_const.ensures.reads (next _ c.in_ok-capability.ensures.reads
    (exit _ c.from_residual-in_err-aircraft.ensures.1 c.in_err-aircraft.ensures.reads))

pub returns-in_err-kind : goal.returns-in_err-kind
returns-in_err-kind g c = next_const _ _ c.in_ok-read_const.ensures.reads (next _ c.in_ok-capability.ensures.reads (next
    _ c.in_ok-aircraft.ensures.reads (exit _ c.from_residual-in_err-kind.ensures.1 c.in_err-kind.ensures.reads)))

pub returns-in_err-message : goal.returns-in_err-message
returns-in_err-message g c = next_const _ _ c.in_ok-read_const.ensures.reads (next _ c.in_ok-capability.ensures.reads
    (next _ c.in_ok-aircraft.ensures.reads (next _ c.in_ok-kind.ensures.reads (exit _
    c.from_residual-in_err-message.ensures.1 c.in_err-message.ensures.reads))))

pub returns-in_err-stored_crc24_adsb : goal.returns-in_err-stored_crc24_adsb
returns-in_err-stored_crc24_adsb g c = next_const _ _ c.in_ok-read_const.ensures.reads (next _
    c.in_ok-capability.ensures.reads (next _ c.in_ok-aircraft.ensures.reads (next _ c.in_ok-kind.ensures.reads (next _
    c.in_ok-message.ensures.reads (exit _ c.from_residual-in_err-stored_crc24_adsb.ensures.1
    c.in_err-stored_crc24_adsb.ensures.reads)))))

pub returns-then-not-is_crc24_adsb : goal.returns-then-not-is_crc24_adsb
returns-then-not-is_crc24_adsb g c = next_const _ _ c.in_ok-read_const.ensures.reads (next _
    c.in_ok-capability.ensures.reads (next _ c.in_ok-aircraft.ensures.reads (next _ c.in_ok-kind.ensures.reads (next _
    c.in_ok-message.ensures.reads (next _ c.in_ok-stored_crc24_adsb.ensures.reads (else_own _ _ _ (ne_eqb _ _ (rw
    c.crc24_adsb.ensures at c.if-not-is_crc24_adsb.true)) (own_end _ _)))))))

pub returns : goal.returns
returns g c = next_const _ _ c.in_ok-read_const.ensures.reads (next _ c.in_ok-capability.ensures.reads (next _
    c.in_ok-aircraft.ensures.reads (next _ c.in_ok-kind.ensures.reads (next _ c.in_ok-message.ensures.reads (next _
    c.in_ok-stored_crc24_adsb.ensures.reads (if_own _ _ _ (eq-eqb _ _ (rw c.crc24_adsb.ensures at
    c.if-not-is_crc24_adsb.false)) (own_end _ _)))))))
