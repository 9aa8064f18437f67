-- Made by `./format` from formats/tls_record.fields: edit that file and make this one anew.
use Rattle.bitstream_io.proofs.GrowsLemmas.{go_grown, stop_grown, grown, vec-grown, grown_end}
use Rattle.bitstream_messages.proofs.tls_record.TlsRecord.read.Goals as goal

pub returns-in_err-content : goal.returns-in_err-content
returns-in_err-content g c = stop_grown _ (grown c.in_err-content.ensures) c.from_residual.ensures.1

pub returns-in_err-version : goal.returns-in_err-version
returns-in_err-version g c = go_grown _ (grown c.in_ok-content.ensures) (stop_grown _ (grown
    c.in_err-version.ensures.reads) c.from_residual-in_err-version.ensures.1)

pub returns-in_err-fragment_bytes : goal.returns-in_err-fragment_bytes
returns-in_err-fragment_bytes g c = go_grown _ (grown c.in_ok-content.ensures) (go_grown _ (grown
    c.in_ok-version.ensures.reads) (stop_grown _ (grown c.in_err-fragment_bytes.ensures.reads)
    c.from_residual-in_err-fragment_bytes.ensures.1))

pub returns-in_err-fragment : goal.returns-in_err-fragment
returns-in_err-fragment g c = go_grown _ (grown c.in_ok-content.ensures) (go_grown _ (grown
    c.in_ok-version.ensures.reads) (go_grown _ (grown c.in_ok-fragment_bytes.ensures.reads) (stop_grown _ (vec-grown _ _
    c.in_err-fragment.ensures.reads) c.from_residual-in_err-fragment.ensures.1)))

pub returns : goal.returns
returns g c = go_grown _ (grown c.in_ok-content.ensures) (go_grown _ (grown c.in_ok-version.ensures.reads) (go_grown _
    (grown c.in_ok-fragment_bytes.ensures.reads) (go_grown _ (vec-grown _ _ c.in_ok-fragment.ensures.reads) (grown_end _
    _))))
