-- Made by `./format` from formats/eapol_packet.fields: edit that file and make this one anew.
use Rattle.std.proofs.Common.{refl, false}
use Rattle.std.proofs.lemmas.Bool.{eq-eqb, ne_eqb}
use Rattle.bitstream_io.proofs.CallerLemmas.{next_grown_const, exit_grown_const, if_growing, else_growing}
use Rattle.bitstream_io.proofs.GrowsLemmas.{go_grown, stop_grown, grown, if_grown, part_go, part_stop, grown_end}
use Rattle.bitstream_io.proofs.OwnLemmas.{is_error}
use Rattle.network_messages.proofs.eapol_packet.EapolPacket.read.Goals as goal

pub returns-in_err-version : goal.returns-in_err-version
returns-in_err-version g c = stop_grown _ (grown c.in_err-version.ensures.reads) c.from_residual.ensures.1

pub returns-in_err-read_const : goal.returns-in_err-read_const
returns-in_err-read_const g c = go_grown _ (grown c.in_ok-version.ensures.reads) (exit_grown_const _ _
    c.from_residual-in_err-read_const.ensures.1 c.in_err-read_const.ensures.reads refl)

pub returns-in_err-stored_body_bytes : goal.returns-in_err-stored_body_bytes
returns-in_err-stored_body_bytes g c = go_grown _ (grown c.in_ok-version.ensures.reads) (next_grown_const _ _
    c.in_ok-read_const.ensures.reads (stop_grown _ (grown c.in_err-stored_body_bytes.ensures.reads)
    c.from_residual-in_err-stored_body_bytes.ensures.1))

pub returns-in_err-code : goal.returns-in_err-code
returns-in_err-code g c = go_grown _ (grown c.in_ok-version.ensures.reads) (next_grown_const _ _
    c.in_ok-read_const.ensures.reads (go_grown _ (grown c.in_ok-stored_body_bytes.ensures.reads) (part_stop _ (if_grown
    false c.in_err-code.ensures) (is_error _ _ c.from_residual-in_err-code.ensures.1))))

pub returns-in_err-id : goal.returns-in_err-id
returns-in_err-id g c = go_grown _ (grown c.in_ok-version.ensures.reads) (next_grown_const _ _
    c.in_ok-read_const.ensures.reads (go_grown _ (grown c.in_ok-stored_body_bytes.ensures.reads) (part_go _ (if_grown
    false c.in_ok-code.ensures) (stop_grown _ (grown c.in_err-id.ensures.reads) c.from_residual-in_err-id.ensures.1))))

pub returns-in_err-data_bytes : goal.returns-in_err-data_bytes
returns-in_err-data_bytes g c = go_grown _ (grown c.in_ok-version.ensures.reads) (next_grown_const _ _
    c.in_ok-read_const.ensures.reads (go_grown _ (grown c.in_ok-stored_body_bytes.ensures.reads) (part_go _ (if_grown
    false c.in_ok-code.ensures) (go_grown _ (grown c.in_ok-id.ensures.reads) (stop_grown _ (grown
    c.in_err-data_bytes.ensures.reads) c.from_residual-in_err-data_bytes.ensures.1)))))

pub returns-in_err-data_ : goal.returns-in_err-data_
returns-in_err-data_ g c = go_grown _ (grown c.in_ok-version.ensures.reads) (next_grown_const _ _
    c.in_ok-read_const.ensures.reads (go_grown _ (grown c.in_ok-stored_body_bytes.ensures.reads) (part_go _ (if_grown
    false c.in_ok-code.ensures) (go_grown _ (grown c.in_ok-id.ensures.reads) (go_grown _ (grown
    c.in_ok-data_bytes.ensures.reads) (part_stop _ c.in_err-data_.ensures (is_error _ _
    c.from_residual-in_err-data_.ensures.1)))))))

pub returns-then-not-is_body_bytes : goal.returns-then-not-is_body_bytes
returns-then-not-is_body_bytes g c = go_grown _ (grown c.in_ok-version.ensures.reads) (next_grown_const _ _
    c.in_ok-read_const.ensures.reads (go_grown _ (grown c.in_ok-stored_body_bytes.ensures.reads) (part_go _ (if_grown
    false c.in_ok-code.ensures) (go_grown _ (grown c.in_ok-id.ensures.reads) (go_grown _ (grown
    c.in_ok-data_bytes.ensures.reads) (part_go _ c.in_ok-data_.ensures (else_growing _ _ _ (ne_eqb _ _ (rw
    c.body_bytes.ensures at c.if-not-is_body_bytes.true)) (grown_end _ _))))))))

pub returns : goal.returns
returns g c = go_grown _ (grown c.in_ok-version.ensures.reads) (next_grown_const _ _ c.in_ok-read_const.ensures.reads
    (go_grown _ (grown c.in_ok-stored_body_bytes.ensures.reads) (part_go _ (if_grown false c.in_ok-code.ensures)
    (go_grown _ (grown c.in_ok-id.ensures.reads) (go_grown _ (grown c.in_ok-data_bytes.ensures.reads) (part_go _
    c.in_ok-data_.ensures (if_growing _ _ _ (eq-eqb _ _ (rw c.body_bytes.ensures at c.if-not-is_body_bytes.false))
    (grown_end _ _))))))))
