-- Made by `./format` from formats/rtp_extension.fields: edit that file and make this one anew.
use Rattle.bitstream_io.proofs.GrowsLemmas.{go_grown, stop_grown, grown, vec-grown, grown_end}
use Rattle.network_messages.proofs.rtp_extension.RtpExtension.read.Goals as goal

pub returns-in_err-profile : goal.returns-in_err-profile
returns-in_err-profile g c = stop_grown _ (grown c.in_err-profile.ensures.reads) c.from_residual.ensures.1

pub returns-in_err-data_bytes : goal.returns-in_err-data_bytes
returns-in_err-data_bytes g c = go_grown _ (grown c.in_ok-profile.ensures.reads) (stop_grown _ (grown
    c.in_err-data_bytes.ensures.reads) c.from_residual-in_err-data_bytes.ensures.1)

pub returns-in_err-data_ : goal.returns-in_err-data_
returns-in_err-data_ g c = go_grown _ (grown c.in_ok-profile.ensures.reads) (go_grown _ (grown
    c.in_ok-data_bytes.ensures.reads) (stop_grown _ (vec-grown _ _ (rw c.size_in_units.ensures at
    c.in_err-data_.ensures.reads)) c.from_residual-in_err-data_.ensures.1))

pub returns : goal.returns
returns g c = go_grown _ (grown c.in_ok-profile.ensures.reads) (go_grown _ (grown c.in_ok-data_bytes.ensures.reads)
    (go_grown _ (vec-grown _ _ (rw c.size_in_units.ensures at c.in_ok-data_.ensures.reads)) (grown_end _ _)))
