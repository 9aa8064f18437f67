use Rattle.std.proofs.Common.{refl}
use Rattle.std.proofs.lemmas.Bool.{eq-eqb, ne_eqb}
use Rattle.bitstream_io.proofs.CallerLemmas.{next_own_read as next, next_own_const as next_const, exit_own_read as exit, exit_own_const as exit_const}
use Rattle.bitstream_io.proofs.OwnSteps.{own_end, if_own, else_own}
use Rattle.bitstream_callers.proofs.sps.Sps.read.Goals as goal

pub returns-in_err-read_const : goal.returns-in_err-read_const
returns-in_err-read_const g c = exit_const _ _ c.from_residual.ensures.1 c.in_err-read_const.ensures.reads refl

pub returns-in_err-profile : goal.returns-in_err-profile
returns-in_err-profile g c = next_const _ _ c.in_ok-read_const.ensures.reads (exit _
    c.from_residual-in_err-profile.ensures.1 c.in_err-profile.ensures.reads)

pub returns-in_err-constraints : goal.returns-in_err-constraints
returns-in_err-constraints g c = next_const _ _ c.in_ok-read_const.ensures.reads (next _ c.in_ok-profile.ensures.reads
    (exit _ c.from_residual-in_err-constraints.ensures.1 c.in_err-constraints.ensures.reads))

pub returns-in_err-level : goal.returns-in_err-level
returns-in_err-level g c = next_const _ _ c.in_ok-read_const.ensures.reads (next _ c.in_ok-profile.ensures.reads (next
    _ c.in_ok-constraints.ensures.reads (exit _ c.from_residual-in_err-level.ensures.1 c.in_err-level.ensures.reads)))

pub returns-in_err-id : goal.returns-in_err-id
returns-in_err-id g c = next_const _ _ c.in_ok-read_const.ensures.reads (next _ c.in_ok-profile.ensures.reads (next _
    c.in_ok-constraints.ensures.reads (next _ c.in_ok-level.ensures.reads (exit _ c.from_residual-in_err-id.ensures.1
    c.in_err-id.ensures.reads))))

pub returns-in_err-frame_number_bits : goal.returns-in_err-frame_number_bits
returns-in_err-frame_number_bits g c = next_const _ _ c.in_ok-read_const.ensures.reads (next _
    c.in_ok-profile.ensures.reads (next _ c.in_ok-constraints.ensures.reads (next _ c.in_ok-level.ensures.reads (next
    _ c.in_ok-id.ensures.reads (exit _ c.from_residual-in_err-frame_number_bits.ensures.1
    c.in_err-frame_number_bits.ensures.reads)))))

pub returns-in_err-order : goal.returns-in_err-order
returns-in_err-order g c = next_const _ _ c.in_ok-read_const.ensures.reads (next _ c.in_ok-profile.ensures.reads (next
    _ c.in_ok-constraints.ensures.reads (next _ c.in_ok-level.ensures.reads (next _ c.in_ok-id.ensures.reads (next _
    c.in_ok-frame_number_bits.ensures.reads (exit _ c.from_residual-in_err-order.ensures.1
    c.in_err-order.ensures.reads))))))

pub returns-then-order-ne2 : goal.returns-then-order-ne2
returns-then-order-ne2 g c = next_const _ _ c.in_ok-read_const.ensures.reads (next _ c.in_ok-profile.ensures.reads
    (next _ c.in_ok-constraints.ensures.reads (next _ c.in_ok-level.ensures.reads (next _ c.in_ok-id.ensures.reads
    (next _ c.in_ok-frame_number_bits.ensures.reads (next _ c.in_ok-order.ensures.reads (else_own _ _ _ (ne_eqb _ 2
    c.if-order-ne2.true) (own_end _ _))))))))

pub returns-in_err-read_ue : goal.returns-in_err-read_ue
returns-in_err-read_ue g c = next_const _ _ c.in_ok-read_const.ensures.reads (next _ c.in_ok-profile.ensures.reads
    (next _ c.in_ok-constraints.ensures.reads (next _ c.in_ok-level.ensures.reads (next _ c.in_ok-id.ensures.reads
    (next _ c.in_ok-frame_number_bits.ensures.reads (next _ c.in_ok-order.ensures.reads (if_own _ _ _ (eq-eqb _ 2
    c.if-order-ne2.false) (exit _ c.from_residual-in_err-read_ue.ensures.1 c.in_err-read_ue.ensures.reads))))))))

pub returns-in_err-read_bit : goal.returns-in_err-read_bit
returns-in_err-read_bit g c = next_const _ _ c.in_ok-read_const.ensures.reads (next _ c.in_ok-profile.ensures.reads
    (next _ c.in_ok-constraints.ensures.reads (next _ c.in_ok-level.ensures.reads (next _ c.in_ok-id.ensures.reads
    (next _ c.in_ok-frame_number_bits.ensures.reads (next _ c.in_ok-order.ensures.reads (if_own _ _ _ (eq-eqb _ 2
    c.if-order-ne2.false) (next _ c.in_ok-read_ue.ensures.reads (exit _ c.from_residual-in_err-read_bit.ensures.1
    c.in_err-read_bit.ensures.reads)))))))))

pub returns-in_err-read_ue-2 : goal.returns-in_err-read_ue-2
returns-in_err-read_ue-2 g c = next_const _ _ c.in_ok-read_const.ensures.reads (next _ c.in_ok-profile.ensures.reads
    (next _ c.in_ok-constraints.ensures.reads (next _ c.in_ok-level.ensures.reads (next _ c.in_ok-id.ensures.reads
    (next _ c.in_ok-frame_number_bits.ensures.reads (next _ c.in_ok-order.ensures.reads (if_own _ _ _ (eq-eqb _ 2
    c.if-order-ne2.false) (next _ c.in_ok-read_ue.ensures.reads (next _ c.in_ok-read_bit.ensures.reads (exit _
    c.from_residual-in_err-read_ue-2.ensures.1 c.in_err-read_ue-2.ensures.reads))))))))))

pub returns-in_err-read_ue-3 : goal.returns-in_err-read_ue-3
returns-in_err-read_ue-3 g c = next_const _ _ c.in_ok-read_const.ensures.reads (next _ c.in_ok-profile.ensures.reads
    (next _ c.in_ok-constraints.ensures.reads (next _ c.in_ok-level.ensures.reads (next _ c.in_ok-id.ensures.reads
    (next _ c.in_ok-frame_number_bits.ensures.reads (next _ c.in_ok-order.ensures.reads (if_own _ _ _ (eq-eqb _ 2
    c.if-order-ne2.false) (next _ c.in_ok-read_ue.ensures.reads (next _ c.in_ok-read_bit.ensures.reads (next _
    c.in_ok-read_ue-2.ensures.reads (exit _ c.from_residual-in_err-read_ue-3.ensures.1
    c.in_err-read_ue-3.ensures.reads)))))))))))

pub returns : goal.returns
returns g c = next_const _ _ c.in_ok-read_const.ensures.reads (next _ c.in_ok-profile.ensures.reads (next _
    c.in_ok-constraints.ensures.reads (next _ c.in_ok-level.ensures.reads (next _ c.in_ok-id.ensures.reads (next _
    c.in_ok-frame_number_bits.ensures.reads (next _ c.in_ok-order.ensures.reads (if_own _ _ _ (eq-eqb _ 2
    c.if-order-ne2.false) (next _ c.in_ok-read_ue.ensures.reads (next _ c.in_ok-read_bit.ensures.reads (next _
    c.in_ok-read_ue-2.ensures.reads (next _ c.in_ok-read_ue-3.ensures.reads (own_end _ _))))))))))))
