-- Made by `./format` from formats/ipv4_packet.fields: edit that file and make this one anew.
use Rattle.std.proofs.Common.{refl}
use Rattle.std.proofs.lemmas.Bool.{eq-eqb, ne_eqb}
use Rattle.bitstream_io.proofs.CallerLemmas.{next_grown_const, exit_grown_const, if_growing, else_growing}
use Rattle.bitstream_io.proofs.GrowsLemmas.{go_grown, stop_grown, grown, part_go, part_stop, grown_end}
use Rattle.bitstream_io.proofs.OwnLemmas.{is_error}
use Rattle.network_messages.proofs.ipv4_packet.Ipv4Packet.read.Goals as goal

pub returns-in_err-read_const : goal.returns-in_err-read_const
returns-in_err-read_const g c = exit_grown_const _ _ c.from_residual.ensures.1 c.in_err-read_const.ensures.reads refl

pub returns-in_err-options_bytes : goal.returns-in_err-options_bytes
returns-in_err-options_bytes g c = next_grown_const _ _ c.in_ok-read_const.ensures.reads (stop_grown _ (grown
    c.in_err-options_bytes.ensures.reads) c.from_residual-in_err-options_bytes.ensures.1)

pub returns-in_err-service : goal.returns-in_err-service
returns-in_err-service g c = next_grown_const _ _ c.in_ok-read_const.ensures.reads (go_grown _ (grown
    c.in_ok-options_bytes.ensures.reads) (stop_grown _ (grown c.in_err-service.ensures.reads)
    c.from_residual-in_err-service.ensures.1))

pub returns-in_err-length_ : goal.returns-in_err-length_
returns-in_err-length_ g c = next_grown_const _ _ c.in_ok-read_const.ensures.reads (go_grown _ (grown
    c.in_ok-options_bytes.ensures.reads) (go_grown _ (grown c.in_ok-service.ensures.reads) (stop_grown _ (grown
    c.in_err-length_.ensures.reads) c.from_residual-in_err-length_.ensures.1)))

pub returns-in_err-id : goal.returns-in_err-id
returns-in_err-id g c = next_grown_const _ _ c.in_ok-read_const.ensures.reads (go_grown _ (grown
    c.in_ok-options_bytes.ensures.reads) (go_grown _ (grown c.in_ok-service.ensures.reads) (go_grown _ (grown
    c.in_ok-length_.ensures.reads) (stop_grown _ (grown c.in_err-id.ensures.reads)
    c.from_residual-in_err-id.ensures.1))))

pub returns-in_err-read_const-2 : goal.returns-in_err-read_const-2
returns-in_err-read_const-2 g c = next_grown_const _ _ c.in_ok-read_const.ensures.reads (go_grown _ (grown
    c.in_ok-options_bytes.ensures.reads) (go_grown _ (grown c.in_ok-service.ensures.reads) (go_grown _ (grown
    c.in_ok-length_.ensures.reads) (go_grown _ (grown c.in_ok-id.ensures.reads) (exit_grown_const _ _
    c.from_residual-in_err-read_const-2.ensures.1 c.in_err-read_const-2.ensures.reads refl)))))

pub returns-in_err-keep_whole : goal.returns-in_err-keep_whole
returns-in_err-keep_whole g c = next_grown_const _ _ c.in_ok-read_const.ensures.reads (go_grown _ (grown
    c.in_ok-options_bytes.ensures.reads) (go_grown _ (grown c.in_ok-service.ensures.reads) (go_grown _ (grown
    c.in_ok-length_.ensures.reads) (go_grown _ (grown c.in_ok-id.ensures.reads) (next_grown_const _ _
    c.in_ok-read_const-2.ensures.reads (stop_grown _ (grown c.in_err-keep_whole.ensures.reads)
    c.from_residual-in_err-keep_whole.ensures.1))))))

pub returns-in_err-more_ : goal.returns-in_err-more_
returns-in_err-more_ g c = next_grown_const _ _ c.in_ok-read_const.ensures.reads (go_grown _ (grown
    c.in_ok-options_bytes.ensures.reads) (go_grown _ (grown c.in_ok-service.ensures.reads) (go_grown _ (grown
    c.in_ok-length_.ensures.reads) (go_grown _ (grown c.in_ok-id.ensures.reads) (next_grown_const _ _
    c.in_ok-read_const-2.ensures.reads (go_grown _ (grown c.in_ok-keep_whole.ensures.reads) (stop_grown _ (grown
    c.in_err-more_.ensures.reads) c.from_residual-in_err-more_.ensures.1)))))))

pub returns-in_err-offset : goal.returns-in_err-offset
returns-in_err-offset g c = next_grown_const _ _ c.in_ok-read_const.ensures.reads (go_grown _ (grown
    c.in_ok-options_bytes.ensures.reads) (go_grown _ (grown c.in_ok-service.ensures.reads) (go_grown _ (grown
    c.in_ok-length_.ensures.reads) (go_grown _ (grown c.in_ok-id.ensures.reads) (next_grown_const _ _
    c.in_ok-read_const-2.ensures.reads (go_grown _ (grown c.in_ok-keep_whole.ensures.reads) (go_grown _ (grown
    c.in_ok-more_.ensures.reads) (stop_grown _ (grown c.in_err-offset.ensures.reads)
    c.from_residual-in_err-offset.ensures.1))))))))

pub returns-in_err-ttl : goal.returns-in_err-ttl
returns-in_err-ttl g c = next_grown_const _ _ c.in_ok-read_const.ensures.reads (go_grown _ (grown
    c.in_ok-options_bytes.ensures.reads) (go_grown _ (grown c.in_ok-service.ensures.reads) (go_grown _ (grown
    c.in_ok-length_.ensures.reads) (go_grown _ (grown c.in_ok-id.ensures.reads) (next_grown_const _ _
    c.in_ok-read_const-2.ensures.reads (go_grown _ (grown c.in_ok-keep_whole.ensures.reads) (go_grown _ (grown
    c.in_ok-more_.ensures.reads) (go_grown _ (grown c.in_ok-offset.ensures.reads) (stop_grown _ (grown
    c.in_err-ttl.ensures.reads) c.from_residual-in_err-ttl.ensures.1)))))))))

pub returns-in_err-protocol : goal.returns-in_err-protocol
returns-in_err-protocol g c = next_grown_const _ _ c.in_ok-read_const.ensures.reads (go_grown _ (grown
    c.in_ok-options_bytes.ensures.reads) (go_grown _ (grown c.in_ok-service.ensures.reads) (go_grown _ (grown
    c.in_ok-length_.ensures.reads) (go_grown _ (grown c.in_ok-id.ensures.reads) (next_grown_const _ _
    c.in_ok-read_const-2.ensures.reads (go_grown _ (grown c.in_ok-keep_whole.ensures.reads) (go_grown _ (grown
    c.in_ok-more_.ensures.reads) (go_grown _ (grown c.in_ok-offset.ensures.reads) (go_grown _ (grown
    c.in_ok-ttl.ensures.reads) (stop_grown _ (grown c.in_err-protocol.ensures.reads)
    c.from_residual-in_err-protocol.ensures.1))))))))))

pub returns-in_err-stored_sum16 : goal.returns-in_err-stored_sum16
returns-in_err-stored_sum16 g c = next_grown_const _ _ c.in_ok-read_const.ensures.reads (go_grown _ (grown
    c.in_ok-options_bytes.ensures.reads) (go_grown _ (grown c.in_ok-service.ensures.reads) (go_grown _ (grown
    c.in_ok-length_.ensures.reads) (go_grown _ (grown c.in_ok-id.ensures.reads) (next_grown_const _ _
    c.in_ok-read_const-2.ensures.reads (go_grown _ (grown c.in_ok-keep_whole.ensures.reads) (go_grown _ (grown
    c.in_ok-more_.ensures.reads) (go_grown _ (grown c.in_ok-offset.ensures.reads) (go_grown _ (grown
    c.in_ok-ttl.ensures.reads) (go_grown _ (grown c.in_ok-protocol.ensures.reads) (stop_grown _ (grown
    c.in_err-stored_sum16.ensures.reads) c.from_residual-in_err-stored_sum16.ensures.1)))))))))))

pub returns-in_err-source : goal.returns-in_err-source
returns-in_err-source g c = next_grown_const _ _ c.in_ok-read_const.ensures.reads (go_grown _ (grown
    c.in_ok-options_bytes.ensures.reads) (go_grown _ (grown c.in_ok-service.ensures.reads) (go_grown _ (grown
    c.in_ok-length_.ensures.reads) (go_grown _ (grown c.in_ok-id.ensures.reads) (next_grown_const _ _
    c.in_ok-read_const-2.ensures.reads (go_grown _ (grown c.in_ok-keep_whole.ensures.reads) (go_grown _ (grown
    c.in_ok-more_.ensures.reads) (go_grown _ (grown c.in_ok-offset.ensures.reads) (go_grown _ (grown
    c.in_ok-ttl.ensures.reads) (go_grown _ (grown c.in_ok-protocol.ensures.reads) (go_grown _ (grown
    c.in_ok-stored_sum16.ensures.reads) (stop_grown _ (grown c.in_err-source.ensures.reads)
    c.from_residual-in_err-source.ensures.1))))))))))))

pub returns-in_err-target : goal.returns-in_err-target
returns-in_err-target g c = next_grown_const _ _ c.in_ok-read_const.ensures.reads (go_grown _ (grown
    c.in_ok-options_bytes.ensures.reads) (go_grown _ (grown c.in_ok-service.ensures.reads) (go_grown _ (grown
    c.in_ok-length_.ensures.reads) (go_grown _ (grown c.in_ok-id.ensures.reads) (next_grown_const _ _
    c.in_ok-read_const-2.ensures.reads (go_grown _ (grown c.in_ok-keep_whole.ensures.reads) (go_grown _ (grown
    c.in_ok-more_.ensures.reads) (go_grown _ (grown c.in_ok-offset.ensures.reads) (go_grown _ (grown
    c.in_ok-ttl.ensures.reads) (go_grown _ (grown c.in_ok-protocol.ensures.reads) (go_grown _ (grown
    c.in_ok-stored_sum16.ensures.reads) (go_grown _ (grown c.in_ok-source.ensures.reads) (stop_grown _ (grown
    c.in_err-target.ensures.reads) c.from_residual-in_err-target.ensures.1)))))))))))))

pub returns-in_err-options : goal.returns-in_err-options
returns-in_err-options g c = next_grown_const _ _ c.in_ok-read_const.ensures.reads (go_grown _ (grown
    c.in_ok-options_bytes.ensures.reads) (go_grown _ (grown c.in_ok-service.ensures.reads) (go_grown _ (grown
    c.in_ok-length_.ensures.reads) (go_grown _ (grown c.in_ok-id.ensures.reads) (next_grown_const _ _
    c.in_ok-read_const-2.ensures.reads (go_grown _ (grown c.in_ok-keep_whole.ensures.reads) (go_grown _ (grown
    c.in_ok-more_.ensures.reads) (go_grown _ (grown c.in_ok-offset.ensures.reads) (go_grown _ (grown
    c.in_ok-ttl.ensures.reads) (go_grown _ (grown c.in_ok-protocol.ensures.reads) (go_grown _ (grown
    c.in_ok-stored_sum16.ensures.reads) (go_grown _ (grown c.in_ok-source.ensures.reads) (go_grown _ (grown
    c.in_ok-target.ensures.reads) (part_stop _ c.in_err-options.ensures (is_error _ _
    c.from_residual-in_err-options.ensures.1)))))))))))))))

pub returns-then-not-is_sum16 : goal.returns-then-not-is_sum16
returns-then-not-is_sum16 g c = next_grown_const _ _ c.in_ok-read_const.ensures.reads (go_grown _ (grown
    c.in_ok-options_bytes.ensures.reads) (go_grown _ (grown c.in_ok-service.ensures.reads) (go_grown _ (grown
    c.in_ok-length_.ensures.reads) (go_grown _ (grown c.in_ok-id.ensures.reads) (next_grown_const _ _
    c.in_ok-read_const-2.ensures.reads (go_grown _ (grown c.in_ok-keep_whole.ensures.reads) (go_grown _ (grown
    c.in_ok-more_.ensures.reads) (go_grown _ (grown c.in_ok-offset.ensures.reads) (go_grown _ (grown
    c.in_ok-ttl.ensures.reads) (go_grown _ (grown c.in_ok-protocol.ensures.reads) (go_grown _ (grown
    c.in_ok-stored_sum16.ensures.reads) (go_grown _ (grown c.in_ok-source.ensures.reads) (go_grown _ (grown
    c.in_ok-target.ensures.reads) (part_go _ c.in_ok-options.ensures (else_growing _ _ _ (ne_eqb _ _ (rw c.sum16.ensures
    at c.if-not-is_sum16.true)) (grown_end _ _))))))))))))))))

pub returns : goal.returns
returns g c = next_grown_const _ _ c.in_ok-read_const.ensures.reads (go_grown _ (grown
    c.in_ok-options_bytes.ensures.reads) (go_grown _ (grown c.in_ok-service.ensures.reads) (go_grown _ (grown
    c.in_ok-length_.ensures.reads) (go_grown _ (grown c.in_ok-id.ensures.reads) (next_grown_const _ _
    c.in_ok-read_const-2.ensures.reads (go_grown _ (grown c.in_ok-keep_whole.ensures.reads) (go_grown _ (grown
    c.in_ok-more_.ensures.reads) (go_grown _ (grown c.in_ok-offset.ensures.reads) (go_grown _ (grown
    c.in_ok-ttl.ensures.reads) (go_grown _ (grown c.in_ok-protocol.ensures.reads) (go_grown _ (grown
    c.in_ok-stored_sum16.ensures.reads) (go_grown _ (grown c.in_ok-source.ensures.reads) (go_grown _ (grown
    c.in_ok-target.ensures.reads) (part_go _ c.in_ok-options.ensures (if_growing _ _ _ (eq-eqb _ _ (rw c.sum16.ensures
    at c.if-not-is_sum16.false)) (grown_end _ _))))))))))))))))
