-- Made by `./format` from formats/checked_ipv4.fields: edit that file and make this one anew.
use Rattle.std.proofs.Common.{refl}
use Rattle.std.proofs.lemmas.Bool.{eq-eqb, ne_eqb}
use Rattle.bitstream_io.proofs.CallerLemmas.{next_own_read as next, exit_own_read as exit}
use Rattle.bitstream_io.proofs.OwnSteps.{if_own, else_own, then_part, end_part, own_end}
use Rattle.network_messages.proofs.checked_ipv4.CheckedIpv4.read.Goals as goal

pub returns-in_err-start : goal.returns-in_err-start
returns-in_err-start g c = end_part _ c.in_err-start.ensures refl refl c.from_residual.ensures.1

pub returns-in_err-service : goal.returns-in_err-service
returns-in_err-service g c = then_part _ c.in_ok-start.ensures refl refl (exit _
    c.from_residual-in_err-service.ensures.1 c.in_err-service.ensures.reads)

pub returns-in_err-length : goal.returns-in_err-length
returns-in_err-length g c = then_part _ c.in_ok-start.ensures refl refl (next _ c.in_ok-service.ensures.reads (exit _
    c.from_residual-in_err-length.ensures.1 c.in_err-length.ensures.reads))

pub returns-in_err-identification : goal.returns-in_err-identification
returns-in_err-identification g c = then_part _ c.in_ok-start.ensures refl refl (next _ c.in_ok-service.ensures.reads
    (next _ c.in_ok-length.ensures.reads (exit _ c.from_residual-in_err-identification.ensures.1
    c.in_err-identification.ensures.reads)))

pub returns-in_err-fragment : goal.returns-in_err-fragment
returns-in_err-fragment g c = then_part _ c.in_ok-start.ensures refl refl (next _ c.in_ok-service.ensures.reads (next _
    c.in_ok-length.ensures.reads (next _ c.in_ok-identification.ensures.reads (exit _
    c.from_residual-in_err-fragment.ensures.1 c.in_err-fragment.ensures.reads))))

pub returns-in_err-time : goal.returns-in_err-time
returns-in_err-time g c = then_part _ c.in_ok-start.ensures refl refl (next _ c.in_ok-service.ensures.reads (next _
    c.in_ok-length.ensures.reads (next _ c.in_ok-identification.ensures.reads (next _ c.in_ok-fragment.ensures.reads
    (exit _ c.from_residual-in_err-time.ensures.1 c.in_err-time.ensures.reads)))))

pub returns-in_err-protocol : goal.returns-in_err-protocol
returns-in_err-protocol g c = then_part _ c.in_ok-start.ensures refl refl (next _ c.in_ok-service.ensures.reads (next _
    c.in_ok-length.ensures.reads (next _ c.in_ok-identification.ensures.reads (next _ c.in_ok-fragment.ensures.reads
    (next _ c.in_ok-time.ensures.reads (exit _ c.from_residual-in_err-protocol.ensures.1
    c.in_err-protocol.ensures.reads))))))

pub returns-in_err-stored_sum16 : goal.returns-in_err-stored_sum16
returns-in_err-stored_sum16 g c = then_part _ c.in_ok-start.ensures refl refl (next _ c.in_ok-service.ensures.reads
    (next _ c.in_ok-length.ensures.reads (next _ c.in_ok-identification.ensures.reads (next _
    c.in_ok-fragment.ensures.reads (next _ c.in_ok-time.ensures.reads (next _ c.in_ok-protocol.ensures.reads (exit _
    c.from_residual-in_err-stored_sum16.ensures.1 c.in_err-stored_sum16.ensures.reads)))))))

pub returns-in_err-source : goal.returns-in_err-source
returns-in_err-source g c = then_part _ c.in_ok-start.ensures refl refl (next _ c.in_ok-service.ensures.reads (next _
    c.in_ok-length.ensures.reads (next _ c.in_ok-identification.ensures.reads (next _ c.in_ok-fragment.ensures.reads
    (next _ c.in_ok-time.ensures.reads (next _ c.in_ok-protocol.ensures.reads (next _ c.in_ok-stored_sum16.ensures.reads
    (exit _ c.from_residual-in_err-source.ensures.1 c.in_err-source.ensures.reads))))))))

pub returns-in_err-target : goal.returns-in_err-target
returns-in_err-target g c = then_part _ c.in_ok-start.ensures refl refl (next _ c.in_ok-service.ensures.reads (next _
    c.in_ok-length.ensures.reads (next _ c.in_ok-identification.ensures.reads (next _ c.in_ok-fragment.ensures.reads
    (next _ c.in_ok-time.ensures.reads (next _ c.in_ok-protocol.ensures.reads (next _ c.in_ok-stored_sum16.ensures.reads
    (next _ c.in_ok-source.ensures.reads (exit _ c.from_residual-in_err-target.ensures.1
    c.in_err-target.ensures.reads)))))))))

pub returns-then-not-is_sum16 : goal.returns-then-not-is_sum16
returns-then-not-is_sum16 g c = then_part _ c.in_ok-start.ensures refl refl (next _ c.in_ok-service.ensures.reads (next
    _ c.in_ok-length.ensures.reads (next _ c.in_ok-identification.ensures.reads (next _ c.in_ok-fragment.ensures.reads
    (next _ c.in_ok-time.ensures.reads (next _ c.in_ok-protocol.ensures.reads (next _ c.in_ok-stored_sum16.ensures.reads
    (next _ c.in_ok-source.ensures.reads (next _ c.in_ok-target.ensures.reads (else_own _ _ _ (ne_eqb _ _ (rw
    c.number.ensures at (rw c.sum16_of.ensures at c.if-not-is_sum16.true))) (own_end _ _)))))))))))

pub returns : goal.returns
returns g c = then_part _ c.in_ok-start.ensures refl refl (next _ c.in_ok-service.ensures.reads (next _
    c.in_ok-length.ensures.reads (next _ c.in_ok-identification.ensures.reads (next _ c.in_ok-fragment.ensures.reads
    (next _ c.in_ok-time.ensures.reads (next _ c.in_ok-protocol.ensures.reads (next _ c.in_ok-stored_sum16.ensures.reads
    (next _ c.in_ok-source.ensures.reads (next _ c.in_ok-target.ensures.reads (if_own _ _ _ (eq-eqb _ _ (rw
    c.number.ensures at (rw c.sum16_of.ensures at c.if-not-is_sum16.false))) (own_end _ _)))))))))))
