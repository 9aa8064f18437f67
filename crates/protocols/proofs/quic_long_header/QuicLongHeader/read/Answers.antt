-- Made by `./format` from formats/quic_long_header.fields: edit that file and make this one anew.
use Rattle.std.proofs.Common.{refl}
use Rattle.bitstream_io.proofs.CallerLemmas.{next_grown_const, exit_grown_const}
use Rattle.bitstream_io.proofs.GrowsLemmas.{go_grown, stop_grown, grown, vec-grown, grown_end}
use Rattle.protocols.proofs.quic_long_header.QuicLongHeader.read.Goals as goal

pub returns-in_err-read_const : goal.returns-in_err-read_const
returns-in_err-read_const g c = exit_grown_const _ _ c.from_residual.ensures.1 c.in_err-read_const.ensures.reads refl

pub returns-in_err-fixed : goal.returns-in_err-fixed
returns-in_err-fixed g c = next_grown_const _ _ c.in_ok-read_const.ensures.reads (stop_grown _ (grown
    c.in_err-fixed.ensures.reads) c.from_residual-in_err-fixed.ensures.1)

pub returns-in_err-kind : goal.returns-in_err-kind
returns-in_err-kind g c = next_grown_const _ _ c.in_ok-read_const.ensures.reads (go_grown _ (grown
    c.in_ok-fixed.ensures.reads) (stop_grown _ (grown c.in_err-kind.ensures.reads)
    c.from_residual-in_err-kind.ensures.1))

pub returns-in_err-specific : goal.returns-in_err-specific
returns-in_err-specific g c = next_grown_const _ _ c.in_ok-read_const.ensures.reads (go_grown _ (grown
    c.in_ok-fixed.ensures.reads) (go_grown _ (grown c.in_ok-kind.ensures.reads) (stop_grown _ (grown
    c.in_err-specific.ensures.reads) c.from_residual-in_err-specific.ensures.1)))

pub returns-in_err-version : goal.returns-in_err-version
returns-in_err-version g c = next_grown_const _ _ c.in_ok-read_const.ensures.reads (go_grown _ (grown
    c.in_ok-fixed.ensures.reads) (go_grown _ (grown c.in_ok-kind.ensures.reads) (go_grown _ (grown
    c.in_ok-specific.ensures.reads) (stop_grown _ (grown c.in_err-version.ensures.reads)
    c.from_residual-in_err-version.ensures.1))))

pub returns-in_err-target_count : goal.returns-in_err-target_count
returns-in_err-target_count g c = next_grown_const _ _ c.in_ok-read_const.ensures.reads (go_grown _ (grown
    c.in_ok-fixed.ensures.reads) (go_grown _ (grown c.in_ok-kind.ensures.reads) (go_grown _ (grown
    c.in_ok-specific.ensures.reads) (go_grown _ (grown c.in_ok-version.ensures.reads) (stop_grown _ (grown
    c.in_err-target_count.ensures.reads) c.from_residual-in_err-target_count.ensures.1)))))

pub returns-in_err-target : goal.returns-in_err-target
returns-in_err-target g c = next_grown_const _ _ c.in_ok-read_const.ensures.reads (go_grown _ (grown
    c.in_ok-fixed.ensures.reads) (go_grown _ (grown c.in_ok-kind.ensures.reads) (go_grown _ (grown
    c.in_ok-specific.ensures.reads) (go_grown _ (grown c.in_ok-version.ensures.reads) (go_grown _ (grown
    c.in_ok-target_count.ensures.reads) (stop_grown _ (vec-grown _ _ c.in_err-target.ensures.reads)
    c.from_residual-in_err-target.ensures.1))))))

pub returns-in_err-source_count : goal.returns-in_err-source_count
returns-in_err-source_count g c = next_grown_const _ _ c.in_ok-read_const.ensures.reads (go_grown _ (grown
    c.in_ok-fixed.ensures.reads) (go_grown _ (grown c.in_ok-kind.ensures.reads) (go_grown _ (grown
    c.in_ok-specific.ensures.reads) (go_grown _ (grown c.in_ok-version.ensures.reads) (go_grown _ (grown
    c.in_ok-target_count.ensures.reads) (go_grown _ (vec-grown _ _ c.in_ok-target.ensures.reads) (stop_grown _ (grown
    c.in_err-source_count.ensures.reads) c.from_residual-in_err-source_count.ensures.1)))))))

pub returns-in_err-source : goal.returns-in_err-source
returns-in_err-source g c = next_grown_const _ _ c.in_ok-read_const.ensures.reads (go_grown _ (grown
    c.in_ok-fixed.ensures.reads) (go_grown _ (grown c.in_ok-kind.ensures.reads) (go_grown _ (grown
    c.in_ok-specific.ensures.reads) (go_grown _ (grown c.in_ok-version.ensures.reads) (go_grown _ (grown
    c.in_ok-target_count.ensures.reads) (go_grown _ (vec-grown _ _ c.in_ok-target.ensures.reads) (go_grown _ (grown
    c.in_ok-source_count.ensures.reads) (stop_grown _ (vec-grown _ _ c.in_err-source.ensures.reads)
    c.from_residual-in_err-source.ensures.1))))))))

pub returns : goal.returns
returns g c = next_grown_const _ _ c.in_ok-read_const.ensures.reads (go_grown _ (grown c.in_ok-fixed.ensures.reads)
    (go_grown _ (grown c.in_ok-kind.ensures.reads) (go_grown _ (grown c.in_ok-specific.ensures.reads) (go_grown _ (grown
    c.in_ok-version.ensures.reads) (go_grown _ (grown c.in_ok-target_count.ensures.reads) (go_grown _ (vec-grown _ _
    c.in_ok-target.ensures.reads) (go_grown _ (grown c.in_ok-source_count.ensures.reads) (go_grown _ (vec-grown _ _
    c.in_ok-source.ensures.reads) (grown_end _ _)))))))))
