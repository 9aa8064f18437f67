-- Made by `./format` from formats/tftp_data.fields: edit that file and make this one anew.
use Rattle.std.proofs.Common.{refl}
use Rattle.bitstream_io.proofs.CallerLemmas.{next_grown_const, exit_grown_const}
use Rattle.bitstream_io.proofs.GrowsLemmas.{go_grown, stop_grown, grown, vec-grown, grown_end}
use Rattle.network_messages.proofs.tftp_data.TftpData.read.Goals as goal

pub returns-in_err-read_const : goal.returns-in_err-read_const
returns-in_err-read_const g c = exit_grown_const _ _ c.from_residual.ensures.1 c.in_err-read_const.ensures.reads refl

pub returns-in_err-block : goal.returns-in_err-block
returns-in_err-block g c = next_grown_const _ _ c.in_ok-read_const.ensures.reads (stop_grown _ (grown
    c.in_err-block.ensures.reads) c.from_residual-in_err-block.ensures.1)

pub returns-in_err-data_ : goal.returns-in_err-data_
returns-in_err-data_ g c = next_grown_const _ _ c.in_ok-read_const.ensures.reads (go_grown _ (grown
    c.in_ok-block.ensures.reads) (stop_grown _ (vec-grown _ _ c.in_err-data_.ensures.reads)
    c.from_residual-in_err-data_.ensures.1))

pub returns : goal.returns
returns g c = next_grown_const _ _ c.in_ok-read_const.ensures.reads (go_grown _ (grown c.in_ok-block.ensures.reads)
    (go_grown _ (vec-grown _ _ c.in_ok-data_.ensures.reads) (grown_end _ _)))
