-- Made by `./format` from formats/rtp_packet.fields: edit that file and make this one anew.
use Rattle.std.proofs.Common.{refl}
use Rattle.bitstream_io.proofs.CallerLemmas.{next_grown_const, exit_grown_const}
use Rattle.bitstream_io.proofs.GrowsLemmas.{go_grown, stop_grown, grown, part_go, part_stop, grown_end}
use Rattle.bitstream_io.proofs.OwnLemmas.{is_error}
use Rattle.network_messages.proofs.rtp_packet.RtpPacket.read.Goals as goal

pub returns-in_err-read_const : goal.returns-in_err-read_const
returns-in_err-read_const g c = exit_grown_const _ _ c.from_residual.ensures.1 c.in_err-read_const.ensures.reads refl

pub returns-in_err-padding : goal.returns-in_err-padding
returns-in_err-padding g c = next_grown_const _ _ c.in_ok-read_const.ensures.reads (stop_grown _ (grown
    c.in_err-padding.ensures.reads) c.from_residual-in_err-padding.ensures.1)

pub returns-in_err-has_extension : goal.returns-in_err-has_extension
returns-in_err-has_extension g c = next_grown_const _ _ c.in_ok-read_const.ensures.reads (go_grown _ (grown
    c.in_ok-padding.ensures.reads) (stop_grown _ (grown c.in_err-has_extension.ensures.reads)
    c.from_residual-in_err-has_extension.ensures.1))

pub returns-in_err-csrc_count : goal.returns-in_err-csrc_count
returns-in_err-csrc_count g c = next_grown_const _ _ c.in_ok-read_const.ensures.reads (go_grown _ (grown
    c.in_ok-padding.ensures.reads) (go_grown _ (grown c.in_ok-has_extension.ensures.reads) (stop_grown _ (grown
    c.in_err-csrc_count.ensures.reads) c.from_residual-in_err-csrc_count.ensures.1)))

pub returns-in_err-marker : goal.returns-in_err-marker
returns-in_err-marker g c = next_grown_const _ _ c.in_ok-read_const.ensures.reads (go_grown _ (grown
    c.in_ok-padding.ensures.reads) (go_grown _ (grown c.in_ok-has_extension.ensures.reads) (go_grown _ (grown
    c.in_ok-csrc_count.ensures.reads) (stop_grown _ (grown c.in_err-marker.ensures.reads)
    c.from_residual-in_err-marker.ensures.1))))

pub returns-in_err-payload_type : goal.returns-in_err-payload_type
returns-in_err-payload_type g c = next_grown_const _ _ c.in_ok-read_const.ensures.reads (go_grown _ (grown
    c.in_ok-padding.ensures.reads) (go_grown _ (grown c.in_ok-has_extension.ensures.reads) (go_grown _ (grown
    c.in_ok-csrc_count.ensures.reads) (go_grown _ (grown c.in_ok-marker.ensures.reads) (stop_grown _ (grown
    c.in_err-payload_type.ensures.reads) c.from_residual-in_err-payload_type.ensures.1)))))

pub returns-in_err-sequence : goal.returns-in_err-sequence
returns-in_err-sequence g c = next_grown_const _ _ c.in_ok-read_const.ensures.reads (go_grown _ (grown
    c.in_ok-padding.ensures.reads) (go_grown _ (grown c.in_ok-has_extension.ensures.reads) (go_grown _ (grown
    c.in_ok-csrc_count.ensures.reads) (go_grown _ (grown c.in_ok-marker.ensures.reads) (go_grown _ (grown
    c.in_ok-payload_type.ensures.reads) (stop_grown _ (grown c.in_err-sequence.ensures.reads)
    c.from_residual-in_err-sequence.ensures.1))))))

pub returns-in_err-timestamp : goal.returns-in_err-timestamp
returns-in_err-timestamp g c = next_grown_const _ _ c.in_ok-read_const.ensures.reads (go_grown _ (grown
    c.in_ok-padding.ensures.reads) (go_grown _ (grown c.in_ok-has_extension.ensures.reads) (go_grown _ (grown
    c.in_ok-csrc_count.ensures.reads) (go_grown _ (grown c.in_ok-marker.ensures.reads) (go_grown _ (grown
    c.in_ok-payload_type.ensures.reads) (go_grown _ (grown c.in_ok-sequence.ensures.reads) (stop_grown _ (grown
    c.in_err-timestamp.ensures.reads) c.from_residual-in_err-timestamp.ensures.1)))))))

pub returns-in_err-ssrc : goal.returns-in_err-ssrc
returns-in_err-ssrc g c = next_grown_const _ _ c.in_ok-read_const.ensures.reads (go_grown _ (grown
    c.in_ok-padding.ensures.reads) (go_grown _ (grown c.in_ok-has_extension.ensures.reads) (go_grown _ (grown
    c.in_ok-csrc_count.ensures.reads) (go_grown _ (grown c.in_ok-marker.ensures.reads) (go_grown _ (grown
    c.in_ok-payload_type.ensures.reads) (go_grown _ (grown c.in_ok-sequence.ensures.reads) (go_grown _ (grown
    c.in_ok-timestamp.ensures.reads) (stop_grown _ (grown c.in_err-ssrc.ensures.reads)
    c.from_residual-in_err-ssrc.ensures.1))))))))

pub returns-in_err-csrc : goal.returns-in_err-csrc
returns-in_err-csrc g c = next_grown_const _ _ c.in_ok-read_const.ensures.reads (go_grown _ (grown
    c.in_ok-padding.ensures.reads) (go_grown _ (grown c.in_ok-has_extension.ensures.reads) (go_grown _ (grown
    c.in_ok-csrc_count.ensures.reads) (go_grown _ (grown c.in_ok-marker.ensures.reads) (go_grown _ (grown
    c.in_ok-payload_type.ensures.reads) (go_grown _ (grown c.in_ok-sequence.ensures.reads) (go_grown _ (grown
    c.in_ok-timestamp.ensures.reads) (go_grown _ (grown c.in_ok-ssrc.ensures.reads) (stop_grown _ c.in_err-csrc.ensures
    c.from_residual-in_err-csrc.ensures.1)))))))))

pub returns-in_err-extension : goal.returns-in_err-extension
returns-in_err-extension g c = next_grown_const _ _ c.in_ok-read_const.ensures.reads (go_grown _ (grown
    c.in_ok-padding.ensures.reads) (go_grown _ (grown c.in_ok-has_extension.ensures.reads) (go_grown _ (grown
    c.in_ok-csrc_count.ensures.reads) (go_grown _ (grown c.in_ok-marker.ensures.reads) (go_grown _ (grown
    c.in_ok-payload_type.ensures.reads) (go_grown _ (grown c.in_ok-sequence.ensures.reads) (go_grown _ (grown
    c.in_ok-timestamp.ensures.reads) (go_grown _ (grown c.in_ok-ssrc.ensures.reads) (go_grown _ c.in_ok-csrc.ensures
    (part_stop _ c.in_err-extension.ensures (is_error _ _ c.from_residual-in_err-extension.ensures.1)))))))))))

pub returns : goal.returns
returns g c = next_grown_const _ _ c.in_ok-read_const.ensures.reads (go_grown _ (grown c.in_ok-padding.ensures.reads)
    (go_grown _ (grown c.in_ok-has_extension.ensures.reads) (go_grown _ (grown c.in_ok-csrc_count.ensures.reads)
    (go_grown _ (grown c.in_ok-marker.ensures.reads) (go_grown _ (grown c.in_ok-payload_type.ensures.reads) (go_grown _
    (grown c.in_ok-sequence.ensures.reads) (go_grown _ (grown c.in_ok-timestamp.ensures.reads) (go_grown _ (grown
    c.in_ok-ssrc.ensures.reads) (go_grown _ c.in_ok-csrc.ensures (part_go _ c.in_ok-extension.ensures (grown_end _
    _)))))))))))
