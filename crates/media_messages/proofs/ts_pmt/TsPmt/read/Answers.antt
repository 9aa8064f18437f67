-- Made by `./format` from formats/ts_pmt.fields: edit that file and make this one anew.
use Rattle.std.proofs.Common.{refl}
use Rattle.std.proofs.lemmas.Bool.{eq-eqb, ne_eqb}
use Rattle.bitstream_io.proofs.CallerLemmas.{next_grown_const, exit_grown_const, if_growing, else_growing}
use Rattle.bitstream_io.proofs.GrowsLemmas.{go_grown, stop_grown, grown, part_go, part_stop, grown_end}
use Rattle.bitstream_io.proofs.OwnLemmas.{is_error}
use Rattle.media_messages.proofs.ts_pmt.TsPmt.read.Goals as goal

pub returns-in_err-read_const : goal.returns-in_err-read_const
returns-in_err-read_const g c = exit_grown_const _ _ c.from_residual.ensures.1 c.in_err-read_const.ensures.reads refl

pub returns-in_err-read_const-2 : goal.returns-in_err-read_const-2
returns-in_err-read_const-2 g c = next_grown_const _ _ c.in_ok-read_const.ensures.reads (exit_grown_const _ _
    c.from_residual-in_err-read_const-2.ensures.1 c.in_err-read_const-2.ensures.reads refl)

pub returns-in_err-streams_bytes : goal.returns-in_err-streams_bytes
returns-in_err-streams_bytes g c = next_grown_const _ _ c.in_ok-read_const.ensures.reads (next_grown_const _ _
    c.in_ok-read_const-2.ensures.reads (stop_grown _ (grown c.in_err-streams_bytes.ensures.reads)
    c.from_residual-in_err-streams_bytes.ensures.1))

pub returns-in_err-program : goal.returns-in_err-program
returns-in_err-program g c = next_grown_const _ _ c.in_ok-read_const.ensures.reads (next_grown_const _ _
    c.in_ok-read_const-2.ensures.reads (go_grown _ (grown c.in_ok-streams_bytes.ensures.reads) (stop_grown _ (grown
    c.in_err-program.ensures.reads) c.from_residual-in_err-program.ensures.1)))

pub returns-in_err-read_const-3 : goal.returns-in_err-read_const-3
returns-in_err-read_const-3 g c = next_grown_const _ _ c.in_ok-read_const.ensures.reads (next_grown_const _ _
    c.in_ok-read_const-2.ensures.reads (go_grown _ (grown c.in_ok-streams_bytes.ensures.reads) (go_grown _ (grown
    c.in_ok-program.ensures.reads) (exit_grown_const _ _ c.from_residual-in_err-read_const-3.ensures.1
    c.in_err-read_const-3.ensures.reads refl))))

pub returns-in_err-version : goal.returns-in_err-version
returns-in_err-version g c = next_grown_const _ _ c.in_ok-read_const.ensures.reads (next_grown_const _ _
    c.in_ok-read_const-2.ensures.reads (go_grown _ (grown c.in_ok-streams_bytes.ensures.reads) (go_grown _ (grown
    c.in_ok-program.ensures.reads) (next_grown_const _ _ c.in_ok-read_const-3.ensures.reads (stop_grown _ (grown
    c.in_err-version.ensures.reads) c.from_residual-in_err-version.ensures.1)))))

pub returns-in_err-current : goal.returns-in_err-current
returns-in_err-current g c = next_grown_const _ _ c.in_ok-read_const.ensures.reads (next_grown_const _ _
    c.in_ok-read_const-2.ensures.reads (go_grown _ (grown c.in_ok-streams_bytes.ensures.reads) (go_grown _ (grown
    c.in_ok-program.ensures.reads) (next_grown_const _ _ c.in_ok-read_const-3.ensures.reads (go_grown _ (grown
    c.in_ok-version.ensures.reads) (stop_grown _ (grown c.in_err-current.ensures.reads)
    c.from_residual-in_err-current.ensures.1))))))

pub returns-in_err-read_const-4 : goal.returns-in_err-read_const-4
returns-in_err-read_const-4 g c = next_grown_const _ _ c.in_ok-read_const.ensures.reads (next_grown_const _ _
    c.in_ok-read_const-2.ensures.reads (go_grown _ (grown c.in_ok-streams_bytes.ensures.reads) (go_grown _ (grown
    c.in_ok-program.ensures.reads) (next_grown_const _ _ c.in_ok-read_const-3.ensures.reads (go_grown _ (grown
    c.in_ok-version.ensures.reads) (go_grown _ (grown c.in_ok-current.ensures.reads) (exit_grown_const _ _
    c.from_residual-in_err-read_const-4.ensures.1 c.in_err-read_const-4.ensures.reads refl)))))))

pub returns-in_err-read_const-5 : goal.returns-in_err-read_const-5
returns-in_err-read_const-5 g c = next_grown_const _ _ c.in_ok-read_const.ensures.reads (next_grown_const _ _
    c.in_ok-read_const-2.ensures.reads (go_grown _ (grown c.in_ok-streams_bytes.ensures.reads) (go_grown _ (grown
    c.in_ok-program.ensures.reads) (next_grown_const _ _ c.in_ok-read_const-3.ensures.reads (go_grown _ (grown
    c.in_ok-version.ensures.reads) (go_grown _ (grown c.in_ok-current.ensures.reads) (next_grown_const _ _
    c.in_ok-read_const-4.ensures.reads (exit_grown_const _ _ c.from_residual-in_err-read_const-5.ensures.1
    c.in_err-read_const-5.ensures.reads refl))))))))

pub returns-in_err-clock : goal.returns-in_err-clock
returns-in_err-clock g c = next_grown_const _ _ c.in_ok-read_const.ensures.reads (next_grown_const _ _
    c.in_ok-read_const-2.ensures.reads (go_grown _ (grown c.in_ok-streams_bytes.ensures.reads) (go_grown _ (grown
    c.in_ok-program.ensures.reads) (next_grown_const _ _ c.in_ok-read_const-3.ensures.reads (go_grown _ (grown
    c.in_ok-version.ensures.reads) (go_grown _ (grown c.in_ok-current.ensures.reads) (next_grown_const _ _
    c.in_ok-read_const-4.ensures.reads (next_grown_const _ _ c.in_ok-read_const-5.ensures.reads (stop_grown _ (grown
    c.in_err-clock.ensures.reads) c.from_residual-in_err-clock.ensures.1)))))))))

pub returns-in_err-read_const-6 : goal.returns-in_err-read_const-6
returns-in_err-read_const-6 g c = next_grown_const _ _ c.in_ok-read_const.ensures.reads (next_grown_const _ _
    c.in_ok-read_const-2.ensures.reads (go_grown _ (grown c.in_ok-streams_bytes.ensures.reads) (go_grown _ (grown
    c.in_ok-program.ensures.reads) (next_grown_const _ _ c.in_ok-read_const-3.ensures.reads (go_grown _ (grown
    c.in_ok-version.ensures.reads) (go_grown _ (grown c.in_ok-current.ensures.reads) (next_grown_const _ _
    c.in_ok-read_const-4.ensures.reads (next_grown_const _ _ c.in_ok-read_const-5.ensures.reads (go_grown _ (grown
    c.in_ok-clock.ensures.reads) (exit_grown_const _ _ c.from_residual-in_err-read_const-6.ensures.1
    c.in_err-read_const-6.ensures.reads refl))))))))))

pub returns-in_err-streams : goal.returns-in_err-streams
returns-in_err-streams g c = next_grown_const _ _ c.in_ok-read_const.ensures.reads (next_grown_const _ _
    c.in_ok-read_const-2.ensures.reads (go_grown _ (grown c.in_ok-streams_bytes.ensures.reads) (go_grown _ (grown
    c.in_ok-program.ensures.reads) (next_grown_const _ _ c.in_ok-read_const-3.ensures.reads (go_grown _ (grown
    c.in_ok-version.ensures.reads) (go_grown _ (grown c.in_ok-current.ensures.reads) (next_grown_const _ _
    c.in_ok-read_const-4.ensures.reads (next_grown_const _ _ c.in_ok-read_const-5.ensures.reads (go_grown _ (grown
    c.in_ok-clock.ensures.reads) (next_grown_const _ _ c.in_ok-read_const-6.ensures.reads (part_stop _
    c.in_err-streams.ensures (is_error _ _ c.from_residual-in_err-streams.ensures.1))))))))))))

pub returns-in_err-stored_crc32_mpeg : goal.returns-in_err-stored_crc32_mpeg
returns-in_err-stored_crc32_mpeg g c = next_grown_const _ _ c.in_ok-read_const.ensures.reads (next_grown_const _ _
    c.in_ok-read_const-2.ensures.reads (go_grown _ (grown c.in_ok-streams_bytes.ensures.reads) (go_grown _ (grown
    c.in_ok-program.ensures.reads) (next_grown_const _ _ c.in_ok-read_const-3.ensures.reads (go_grown _ (grown
    c.in_ok-version.ensures.reads) (go_grown _ (grown c.in_ok-current.ensures.reads) (next_grown_const _ _
    c.in_ok-read_const-4.ensures.reads (next_grown_const _ _ c.in_ok-read_const-5.ensures.reads (go_grown _ (grown
    c.in_ok-clock.ensures.reads) (next_grown_const _ _ c.in_ok-read_const-6.ensures.reads (part_go _
    c.in_ok-streams.ensures (stop_grown _ (grown c.in_err-stored_crc32_mpeg.ensures.reads)
    c.from_residual-in_err-stored_crc32_mpeg.ensures.1))))))))))))

pub returns-then-not-is_crc32_mpeg : goal.returns-then-not-is_crc32_mpeg
returns-then-not-is_crc32_mpeg g c = next_grown_const _ _ c.in_ok-read_const.ensures.reads (next_grown_const _ _
    c.in_ok-read_const-2.ensures.reads (go_grown _ (grown c.in_ok-streams_bytes.ensures.reads) (go_grown _ (grown
    c.in_ok-program.ensures.reads) (next_grown_const _ _ c.in_ok-read_const-3.ensures.reads (go_grown _ (grown
    c.in_ok-version.ensures.reads) (go_grown _ (grown c.in_ok-current.ensures.reads) (next_grown_const _ _
    c.in_ok-read_const-4.ensures.reads (next_grown_const _ _ c.in_ok-read_const-5.ensures.reads (go_grown _ (grown
    c.in_ok-clock.ensures.reads) (next_grown_const _ _ c.in_ok-read_const-6.ensures.reads (part_go _
    c.in_ok-streams.ensures (go_grown _ (grown c.in_ok-stored_crc32_mpeg.ensures.reads) (else_growing _ _ _ (ne_eqb _ _
    (rw c.crc32_mpeg.ensures at c.if-not-is_crc32_mpeg.true)) (grown_end _ _))))))))))))))

pub returns : goal.returns
returns g c = next_grown_const _ _ c.in_ok-read_const.ensures.reads (next_grown_const _ _
    c.in_ok-read_const-2.ensures.reads (go_grown _ (grown c.in_ok-streams_bytes.ensures.reads) (go_grown _ (grown
    c.in_ok-program.ensures.reads) (next_grown_const _ _ c.in_ok-read_const-3.ensures.reads (go_grown _ (grown
    c.in_ok-version.ensures.reads) (go_grown _ (grown c.in_ok-current.ensures.reads) (next_grown_const _ _
    c.in_ok-read_const-4.ensures.reads (next_grown_const _ _ c.in_ok-read_const-5.ensures.reads (go_grown _ (grown
    c.in_ok-clock.ensures.reads) (next_grown_const _ _ c.in_ok-read_const-6.ensures.reads (part_go _
    c.in_ok-streams.ensures (go_grown _ (grown c.in_ok-stored_crc32_mpeg.ensures.reads) (if_growing _ _ _ (eq-eqb _ _
    (rw c.crc32_mpeg.ensures at c.if-not-is_crc32_mpeg.false)) (grown_end _ _))))))))))))))
