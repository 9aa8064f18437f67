-- Made by `./format` from formats/quic_stream.fields: edit that file and make this one anew.
use Rattle.std.proofs.Common.{refl}
use Rattle.bitstream_io.proofs.CallerLemmas.{next_grown_const, exit_grown_const}
use Rattle.bitstream_io.proofs.GrowsLemmas.{go_grown, stop_grown, grown, vec-grown, grown_end}
use Rattle.network_messages.proofs.quic_stream.QuicStream.read.Goals as goal

pub returns-in_err-read_const : goal.returns-in_err-read_const
returns-in_err-read_const g c = exit_grown_const _ _ c.from_residual.ensures.1 c.in_err-read_const.ensures.reads refl

pub returns-in_err-last : goal.returns-in_err-last
returns-in_err-last g c = next_grown_const _ _ c.in_ok-read_const.ensures.reads (stop_grown _ (grown
    c.in_err-last.ensures.reads) c.from_residual-in_err-last.ensures.1)

pub returns-in_err-stream : goal.returns-in_err-stream
returns-in_err-stream g c = next_grown_const _ _ c.in_ok-read_const.ensures.reads (go_grown _ (grown
    c.in_ok-last.ensures.reads) (stop_grown _ (grown c.in_err-stream.ensures) c.from_residual-in_err-stream.ensures.1))

pub returns-in_err-offset : goal.returns-in_err-offset
returns-in_err-offset g c = next_grown_const _ _ c.in_ok-read_const.ensures.reads (go_grown _ (grown
    c.in_ok-last.ensures.reads) (go_grown _ (grown c.in_ok-stream.ensures) (stop_grown _ (grown c.in_err-offset.ensures)
    c.from_residual-in_err-offset.ensures.1)))

pub returns-in_err-data_bytes : goal.returns-in_err-data_bytes
returns-in_err-data_bytes g c = next_grown_const _ _ c.in_ok-read_const.ensures.reads (go_grown _ (grown
    c.in_ok-last.ensures.reads) (go_grown _ (grown c.in_ok-stream.ensures) (go_grown _ (grown c.in_ok-offset.ensures)
    (stop_grown _ (grown c.in_err-data_bytes.ensures) c.from_residual-in_err-data_bytes.ensures.1))))

pub returns-in_err-data_ : goal.returns-in_err-data_
returns-in_err-data_ g c = next_grown_const _ _ c.in_ok-read_const.ensures.reads (go_grown _ (grown
    c.in_ok-last.ensures.reads) (go_grown _ (grown c.in_ok-stream.ensures) (go_grown _ (grown c.in_ok-offset.ensures)
    (go_grown _ (grown c.in_ok-data_bytes.ensures) (stop_grown _ (vec-grown _ _ c.in_err-data_.ensures.reads)
    c.from_residual-in_err-data_.ensures.1)))))

pub returns : goal.returns
returns g c = next_grown_const _ _ c.in_ok-read_const.ensures.reads (go_grown _ (grown c.in_ok-last.ensures.reads)
    (go_grown _ (grown c.in_ok-stream.ensures) (go_grown _ (grown c.in_ok-offset.ensures) (go_grown _ (grown
    c.in_ok-data_bytes.ensures) (go_grown _ (vec-grown _ _ c.in_ok-data_.ensures.reads) (grown_end _ _))))))
