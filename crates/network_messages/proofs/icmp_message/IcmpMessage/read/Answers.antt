-- Made by `./format` from formats/icmp_message.fields: edit that file and make this one anew.
use Rattle.std.proofs.Common.{false}
use Rattle.std.proofs.lemmas.Bool.{eq-eqb, ne_eqb}
use Rattle.bitstream_io.proofs.CallerLemmas.{if_growing, else_growing}
use Rattle.bitstream_io.proofs.GrowsLemmas.{go_grown, stop_grown, grown, if_grown, vec-grown, part_go, part_stop, grown_end}
use Rattle.bitstream_io.proofs.OwnLemmas.{is_error}
use Rattle.network_messages.proofs.icmp_message.IcmpMessage.read.Goals as goal

pub returns-in_err-kind : goal.returns-in_err-kind
returns-in_err-kind g c = part_stop _ (if_grown false c.in_err-kind.ensures) (is_error _ _ c.from_residual.ensures.1)

pub returns-in_err-code : goal.returns-in_err-code
returns-in_err-code g c = part_go _ (if_grown false c.in_ok-kind.ensures) (stop_grown _ (grown
    c.in_err-code.ensures.reads) c.from_residual-in_err-code.ensures.1)

pub returns-in_err-stored_sum16 : goal.returns-in_err-stored_sum16
returns-in_err-stored_sum16 g c = part_go _ (if_grown false c.in_ok-kind.ensures) (go_grown _ (grown
    c.in_ok-code.ensures.reads) (stop_grown _ (grown c.in_err-stored_sum16.ensures.reads)
    c.from_residual-in_err-stored_sum16.ensures.1))

pub returns-in_err-identifier : goal.returns-in_err-identifier
returns-in_err-identifier g c = part_go _ (if_grown false c.in_ok-kind.ensures) (go_grown _ (grown
    c.in_ok-code.ensures.reads) (go_grown _ (grown c.in_ok-stored_sum16.ensures.reads) (stop_grown _ (grown
    c.in_err-identifier.ensures.reads) c.from_residual-in_err-identifier.ensures.1)))

pub returns-in_err-sequence : goal.returns-in_err-sequence
returns-in_err-sequence g c = part_go _ (if_grown false c.in_ok-kind.ensures) (go_grown _ (grown
    c.in_ok-code.ensures.reads) (go_grown _ (grown c.in_ok-stored_sum16.ensures.reads) (go_grown _ (grown
    c.in_ok-identifier.ensures.reads) (stop_grown _ (grown c.in_err-sequence.ensures.reads)
    c.from_residual-in_err-sequence.ensures.1))))

pub returns-in_err-data_ : goal.returns-in_err-data_
returns-in_err-data_ g c = part_go _ (if_grown false c.in_ok-kind.ensures) (go_grown _ (grown c.in_ok-code.ensures.reads)
    (go_grown _ (grown c.in_ok-stored_sum16.ensures.reads) (go_grown _ (grown c.in_ok-identifier.ensures.reads)
    (go_grown _ (grown c.in_ok-sequence.ensures.reads) (stop_grown _ (vec-grown _ _ c.in_err-data_.ensures.reads)
    c.from_residual-in_err-data_.ensures.1)))))

pub returns-then-not-is_sum16 : goal.returns-then-not-is_sum16
returns-then-not-is_sum16 g c = part_go _ (if_grown false c.in_ok-kind.ensures) (go_grown _ (grown
    c.in_ok-code.ensures.reads) (go_grown _ (grown c.in_ok-stored_sum16.ensures.reads) (go_grown _ (grown
    c.in_ok-identifier.ensures.reads) (go_grown _ (grown c.in_ok-sequence.ensures.reads) (go_grown _ (vec-grown _ _
    c.in_ok-data_.ensures.reads) (else_growing _ _ _ (ne_eqb _ _ (rw c.deref.ensures.value at (rw c.number.ensures at (rw
    c.sum16_of.ensures at c.if-not-is_sum16.true)))) (grown_end _ _)))))))

pub returns : goal.returns
returns g c = part_go _ (if_grown false c.in_ok-kind.ensures) (go_grown _ (grown c.in_ok-code.ensures.reads) (go_grown _
    (grown c.in_ok-stored_sum16.ensures.reads) (go_grown _ (grown c.in_ok-identifier.ensures.reads) (go_grown _ (grown
    c.in_ok-sequence.ensures.reads) (go_grown _ (vec-grown _ _ c.in_ok-data_.ensures.reads) (if_growing _ _ _ (eq-eqb _ _
    (rw c.deref.ensures.value at (rw c.number.ensures at (rw c.sum16_of.ensures at c.if-not-is_sum16.false))))
    (grown_end _ _)))))))
