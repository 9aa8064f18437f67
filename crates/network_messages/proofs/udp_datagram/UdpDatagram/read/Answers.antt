-- Made by `./format` from formats/udp_datagram.fields: edit that file and make this one anew.
use Rattle.std.proofs.lemmas.Bool.{eq-eqb, ne_eqb}
use Rattle.bitstream_io.proofs.CallerLemmas.{if_growing, else_growing}
use Rattle.bitstream_io.proofs.GrowsLemmas.{go_grown, stop_grown, grown, part_go, part_stop, grown_end}
use Rattle.bitstream_io.proofs.OwnLemmas.{is_error}
use Rattle.network_messages.proofs.udp_datagram.UdpDatagram.read.Goals as goal

pub returns-in_err-source : goal.returns-in_err-source
returns-in_err-source g c = stop_grown _ (grown c.in_err-source.ensures.reads) c.from_residual.ensures.1

pub returns-in_err-target : goal.returns-in_err-target
returns-in_err-target g c = go_grown _ (grown c.in_ok-source.ensures.reads) (stop_grown _ (grown
    c.in_err-target.ensures.reads) c.from_residual-in_err-target.ensures.1)

pub returns-in_err-data_bytes : goal.returns-in_err-data_bytes
returns-in_err-data_bytes g c = go_grown _ (grown c.in_ok-source.ensures.reads) (go_grown _ (grown
    c.in_ok-target.ensures.reads) (stop_grown _ (grown c.in_err-data_bytes.ensures.reads)
    c.from_residual-in_err-data_bytes.ensures.1))

pub returns-in_err-stored_sum16_udp : goal.returns-in_err-stored_sum16_udp
returns-in_err-stored_sum16_udp g c = go_grown _ (grown c.in_ok-source.ensures.reads) (go_grown _ (grown
    c.in_ok-target.ensures.reads) (go_grown _ (grown c.in_ok-data_bytes.ensures.reads) (stop_grown _ (grown
    c.in_err-stored_sum16_udp.ensures.reads) c.from_residual-in_err-stored_sum16_udp.ensures.1)))

pub returns-in_err-data_ : goal.returns-in_err-data_
returns-in_err-data_ g c = go_grown _ (grown c.in_ok-source.ensures.reads) (go_grown _ (grown
    c.in_ok-target.ensures.reads) (go_grown _ (grown c.in_ok-data_bytes.ensures.reads) (go_grown _ (grown
    c.in_ok-stored_sum16_udp.ensures.reads) (part_stop _ c.in_err-data_.ensures (is_error _ _
    c.from_residual-in_err-data_.ensures.1)))))

pub returns-then-not-is_sum16_udp : goal.returns-then-not-is_sum16_udp
returns-then-not-is_sum16_udp g c = go_grown _ (grown c.in_ok-source.ensures.reads) (go_grown _ (grown
    c.in_ok-target.ensures.reads) (go_grown _ (grown c.in_ok-data_bytes.ensures.reads) (go_grown _ (grown
    c.in_ok-stored_sum16_udp.ensures.reads) (part_go _ c.in_ok-data_.ensures (else_growing _ _ _ (ne_eqb _ _ (rw
    c.sum16_udp.ensures at c.if-not-is_sum16_udp.true)) (grown_end _ _))))))

pub returns : goal.returns
returns g c = go_grown _ (grown c.in_ok-source.ensures.reads) (go_grown _ (grown c.in_ok-target.ensures.reads) (go_grown
    _ (grown c.in_ok-data_bytes.ensures.reads) (go_grown _ (grown c.in_ok-stored_sum16_udp.ensures.reads) (part_go _
    c.in_ok-data_.ensures (if_growing _ _ _ (eq-eqb _ _ (rw c.sum16_udp.ensures at c.if-not-is_sum16_udp.false))
    (grown_end _ _))))))
