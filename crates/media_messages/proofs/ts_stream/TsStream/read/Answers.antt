-- Made by `./format` from formats/ts_stream.fields: edit that file and make this one anew.
use Rattle.std.proofs.Common.{refl}
use Rattle.bitstream_io.proofs.CallerLemmas.{next_grown_const, exit_grown_const}
use Rattle.bitstream_io.proofs.GrowsLemmas.{go_grown, stop_grown, grown, vec-grown, grown_end}
use Rattle.media_messages.proofs.ts_stream.TsStream.read.Goals as goal

pub returns-in_err-kind : goal.returns-in_err-kind
returns-in_err-kind g c = stop_grown _ (grown c.in_err-kind.ensures.reads) c.from_residual.ensures.1

pub returns-in_err-read_const : goal.returns-in_err-read_const
returns-in_err-read_const g c = go_grown _ (grown c.in_ok-kind.ensures.reads) (exit_grown_const _ _
    c.from_residual-in_err-read_const.ensures.1 c.in_err-read_const.ensures.reads refl)

pub returns-in_err-packets : goal.returns-in_err-packets
returns-in_err-packets g c = go_grown _ (grown c.in_ok-kind.ensures.reads) (next_grown_const _ _
    c.in_ok-read_const.ensures.reads (stop_grown _ (grown c.in_err-packets.ensures.reads)
    c.from_residual-in_err-packets.ensures.1))

pub returns-in_err-read_const-2 : goal.returns-in_err-read_const-2
returns-in_err-read_const-2 g c = go_grown _ (grown c.in_ok-kind.ensures.reads) (next_grown_const _ _
    c.in_ok-read_const.ensures.reads (go_grown _ (grown c.in_ok-packets.ensures.reads) (exit_grown_const _ _
    c.from_residual-in_err-read_const-2.ensures.1 c.in_err-read_const-2.ensures.reads refl)))

pub returns-in_err-descriptors_bytes : goal.returns-in_err-descriptors_bytes
returns-in_err-descriptors_bytes g c = go_grown _ (grown c.in_ok-kind.ensures.reads) (next_grown_const _ _
    c.in_ok-read_const.ensures.reads (go_grown _ (grown c.in_ok-packets.ensures.reads) (next_grown_const _ _
    c.in_ok-read_const-2.ensures.reads (stop_grown _ (grown c.in_err-descriptors_bytes.ensures.reads)
    c.from_residual-in_err-descriptors_bytes.ensures.1))))

pub returns-in_err-descriptors : goal.returns-in_err-descriptors
returns-in_err-descriptors g c = go_grown _ (grown c.in_ok-kind.ensures.reads) (next_grown_const _ _
    c.in_ok-read_const.ensures.reads (go_grown _ (grown c.in_ok-packets.ensures.reads) (next_grown_const _ _
    c.in_ok-read_const-2.ensures.reads (go_grown _ (grown c.in_ok-descriptors_bytes.ensures.reads) (stop_grown _
    (vec-grown _ _ c.in_err-descriptors.ensures.reads) c.from_residual-in_err-descriptors.ensures.1)))))

pub returns : goal.returns
returns g c = go_grown _ (grown c.in_ok-kind.ensures.reads) (next_grown_const _ _ c.in_ok-read_const.ensures.reads
    (go_grown _ (grown c.in_ok-packets.ensures.reads) (next_grown_const _ _ c.in_ok-read_const-2.ensures.reads (go_grown
    _ (grown c.in_ok-descriptors_bytes.ensures.reads) (go_grown _ (vec-grown _ _ c.in_ok-descriptors.ensures.reads)
    (grown_end _ _))))))
