-- Made by `./format` from formats/wav_file.fields: edit that file and make this one anew.
use Rattle.std.proofs.Common.{refl}
use Rattle.std.proofs.lemmas.Bool.{eq-eqb, ne_eqb}
use Rattle.bitstream_io.proofs.CallerLemmas.{next_grown_const, exit_grown_const, if_growing, else_growing}
use Rattle.bitstream_io.proofs.GrowsLemmas.{go_grown, stop_grown, grown, vec-grown, grown_end}
use Rattle.media_messages.proofs.wav_file.WavFile.read.Goals as goal

pub returns-in_err-read_const : goal.returns-in_err-read_const
returns-in_err-read_const g c = exit_grown_const _ _ c.from_residual.ensures.1 c.in_err-read_const.ensures.reads refl

pub returns-in_err-stored_riff_bytes : goal.returns-in_err-stored_riff_bytes
returns-in_err-stored_riff_bytes g c = next_grown_const _ _ c.in_ok-read_const.ensures.reads (stop_grown _ (grown
    c.in_err-stored_riff_bytes.ensures.reads) c.from_residual-in_err-stored_riff_bytes.ensures.1)

pub returns-in_err-read_const-2 : goal.returns-in_err-read_const-2
returns-in_err-read_const-2 g c = next_grown_const _ _ c.in_ok-read_const.ensures.reads (go_grown _ (grown
    c.in_ok-stored_riff_bytes.ensures.reads) (exit_grown_const _ _ c.from_residual-in_err-read_const-2.ensures.1
    c.in_err-read_const-2.ensures.reads refl))

pub returns-in_err-read_const-3 : goal.returns-in_err-read_const-3
returns-in_err-read_const-3 g c = next_grown_const _ _ c.in_ok-read_const.ensures.reads (go_grown _ (grown
    c.in_ok-stored_riff_bytes.ensures.reads) (next_grown_const _ _ c.in_ok-read_const-2.ensures.reads (exit_grown_const
    _ _ c.from_residual-in_err-read_const-3.ensures.1 c.in_err-read_const-3.ensures.reads refl)))

pub returns-in_err-read_const-4 : goal.returns-in_err-read_const-4
returns-in_err-read_const-4 g c = next_grown_const _ _ c.in_ok-read_const.ensures.reads (go_grown _ (grown
    c.in_ok-stored_riff_bytes.ensures.reads) (next_grown_const _ _ c.in_ok-read_const-2.ensures.reads (next_grown_const
    _ _ c.in_ok-read_const-3.ensures.reads (exit_grown_const _ _ c.from_residual-in_err-read_const-4.ensures.1
    c.in_err-read_const-4.ensures.reads refl))))

pub returns-in_err-tag : goal.returns-in_err-tag
returns-in_err-tag g c = next_grown_const _ _ c.in_ok-read_const.ensures.reads (go_grown _ (grown
    c.in_ok-stored_riff_bytes.ensures.reads) (next_grown_const _ _ c.in_ok-read_const-2.ensures.reads (next_grown_const
    _ _ c.in_ok-read_const-3.ensures.reads (next_grown_const _ _ c.in_ok-read_const-4.ensures.reads (stop_grown _ (grown
    c.in_err-tag.ensures.reads) c.from_residual-in_err-tag.ensures.1)))))

pub returns-in_err-channels : goal.returns-in_err-channels
returns-in_err-channels g c = next_grown_const _ _ c.in_ok-read_const.ensures.reads (go_grown _ (grown
    c.in_ok-stored_riff_bytes.ensures.reads) (next_grown_const _ _ c.in_ok-read_const-2.ensures.reads (next_grown_const
    _ _ c.in_ok-read_const-3.ensures.reads (next_grown_const _ _ c.in_ok-read_const-4.ensures.reads (go_grown _ (grown
    c.in_ok-tag.ensures.reads) (stop_grown _ (grown c.in_err-channels.ensures.reads)
    c.from_residual-in_err-channels.ensures.1))))))

pub returns-in_err-rate : goal.returns-in_err-rate
returns-in_err-rate g c = next_grown_const _ _ c.in_ok-read_const.ensures.reads (go_grown _ (grown
    c.in_ok-stored_riff_bytes.ensures.reads) (next_grown_const _ _ c.in_ok-read_const-2.ensures.reads (next_grown_const
    _ _ c.in_ok-read_const-3.ensures.reads (next_grown_const _ _ c.in_ok-read_const-4.ensures.reads (go_grown _ (grown
    c.in_ok-tag.ensures.reads) (go_grown _ (grown c.in_ok-channels.ensures.reads) (stop_grown _ (grown
    c.in_err-rate.ensures.reads) c.from_residual-in_err-rate.ensures.1)))))))

pub returns-in_err-byte_rate : goal.returns-in_err-byte_rate
returns-in_err-byte_rate g c = next_grown_const _ _ c.in_ok-read_const.ensures.reads (go_grown _ (grown
    c.in_ok-stored_riff_bytes.ensures.reads) (next_grown_const _ _ c.in_ok-read_const-2.ensures.reads (next_grown_const
    _ _ c.in_ok-read_const-3.ensures.reads (next_grown_const _ _ c.in_ok-read_const-4.ensures.reads (go_grown _ (grown
    c.in_ok-tag.ensures.reads) (go_grown _ (grown c.in_ok-channels.ensures.reads) (go_grown _ (grown
    c.in_ok-rate.ensures.reads) (stop_grown _ (grown c.in_err-byte_rate.ensures.reads)
    c.from_residual-in_err-byte_rate.ensures.1))))))))

pub returns-in_err-align : goal.returns-in_err-align
returns-in_err-align g c = next_grown_const _ _ c.in_ok-read_const.ensures.reads (go_grown _ (grown
    c.in_ok-stored_riff_bytes.ensures.reads) (next_grown_const _ _ c.in_ok-read_const-2.ensures.reads (next_grown_const
    _ _ c.in_ok-read_const-3.ensures.reads (next_grown_const _ _ c.in_ok-read_const-4.ensures.reads (go_grown _ (grown
    c.in_ok-tag.ensures.reads) (go_grown _ (grown c.in_ok-channels.ensures.reads) (go_grown _ (grown
    c.in_ok-rate.ensures.reads) (go_grown _ (grown c.in_ok-byte_rate.ensures.reads) (stop_grown _ (grown
    c.in_err-align.ensures.reads) c.from_residual-in_err-align.ensures.1)))))))))

pub returns-in_err-bits_ : goal.returns-in_err-bits_
returns-in_err-bits_ g c = next_grown_const _ _ c.in_ok-read_const.ensures.reads (go_grown _ (grown
    c.in_ok-stored_riff_bytes.ensures.reads) (next_grown_const _ _ c.in_ok-read_const-2.ensures.reads (next_grown_const
    _ _ c.in_ok-read_const-3.ensures.reads (next_grown_const _ _ c.in_ok-read_const-4.ensures.reads (go_grown _ (grown
    c.in_ok-tag.ensures.reads) (go_grown _ (grown c.in_ok-channels.ensures.reads) (go_grown _ (grown
    c.in_ok-rate.ensures.reads) (go_grown _ (grown c.in_ok-byte_rate.ensures.reads) (go_grown _ (grown
    c.in_ok-align.ensures.reads) (stop_grown _ (grown c.in_err-bits_.ensures.reads)
    c.from_residual-in_err-bits_.ensures.1))))))))))

pub returns-in_err-read_const-5 : goal.returns-in_err-read_const-5
returns-in_err-read_const-5 g c = next_grown_const _ _ c.in_ok-read_const.ensures.reads (go_grown _ (grown
    c.in_ok-stored_riff_bytes.ensures.reads) (next_grown_const _ _ c.in_ok-read_const-2.ensures.reads (next_grown_const
    _ _ c.in_ok-read_const-3.ensures.reads (next_grown_const _ _ c.in_ok-read_const-4.ensures.reads (go_grown _ (grown
    c.in_ok-tag.ensures.reads) (go_grown _ (grown c.in_ok-channels.ensures.reads) (go_grown _ (grown
    c.in_ok-rate.ensures.reads) (go_grown _ (grown c.in_ok-byte_rate.ensures.reads) (go_grown _ (grown
    c.in_ok-align.ensures.reads) (go_grown _ (grown c.in_ok-bits_.ensures.reads) (exit_grown_const _ _
    c.from_residual-in_err-read_const-5.ensures.1 c.in_err-read_const-5.ensures.reads refl)))))))))))

pub returns-in_err-samples_bytes : goal.returns-in_err-samples_bytes
returns-in_err-samples_bytes g c = next_grown_const _ _ c.in_ok-read_const.ensures.reads (go_grown _ (grown
    c.in_ok-stored_riff_bytes.ensures.reads) (next_grown_const _ _ c.in_ok-read_const-2.ensures.reads (next_grown_const
    _ _ c.in_ok-read_const-3.ensures.reads (next_grown_const _ _ c.in_ok-read_const-4.ensures.reads (go_grown _ (grown
    c.in_ok-tag.ensures.reads) (go_grown _ (grown c.in_ok-channels.ensures.reads) (go_grown _ (grown
    c.in_ok-rate.ensures.reads) (go_grown _ (grown c.in_ok-byte_rate.ensures.reads) (go_grown _ (grown
    c.in_ok-align.ensures.reads) (go_grown _ (grown c.in_ok-bits_.ensures.reads) (next_grown_const _ _
    c.in_ok-read_const-5.ensures.reads (stop_grown _ (grown c.in_err-samples_bytes.ensures.reads)
    c.from_residual-in_err-samples_bytes.ensures.1))))))))))))

pub returns-in_err-samples : goal.returns-in_err-samples
returns-in_err-samples g c = next_grown_const _ _ c.in_ok-read_const.ensures.reads (go_grown _ (grown
    c.in_ok-stored_riff_bytes.ensures.reads) (next_grown_const _ _ c.in_ok-read_const-2.ensures.reads (next_grown_const
    _ _ c.in_ok-read_const-3.ensures.reads (next_grown_const _ _ c.in_ok-read_const-4.ensures.reads (go_grown _ (grown
    c.in_ok-tag.ensures.reads) (go_grown _ (grown c.in_ok-channels.ensures.reads) (go_grown _ (grown
    c.in_ok-rate.ensures.reads) (go_grown _ (grown c.in_ok-byte_rate.ensures.reads) (go_grown _ (grown
    c.in_ok-align.ensures.reads) (go_grown _ (grown c.in_ok-bits_.ensures.reads) (next_grown_const _ _
    c.in_ok-read_const-5.ensures.reads (go_grown _ (grown c.in_ok-samples_bytes.ensures.reads) (stop_grown _ (vec-grown
    _ _ c.in_err-samples.ensures.reads) c.from_residual-in_err-samples.ensures.1)))))))))))))

pub returns-then-not-is_riff_bytes : goal.returns-then-not-is_riff_bytes
returns-then-not-is_riff_bytes g c = next_grown_const _ _ c.in_ok-read_const.ensures.reads (go_grown _ (grown
    c.in_ok-stored_riff_bytes.ensures.reads) (next_grown_const _ _ c.in_ok-read_const-2.ensures.reads (next_grown_const
    _ _ c.in_ok-read_const-3.ensures.reads (next_grown_const _ _ c.in_ok-read_const-4.ensures.reads (go_grown _ (grown
    c.in_ok-tag.ensures.reads) (go_grown _ (grown c.in_ok-channels.ensures.reads) (go_grown _ (grown
    c.in_ok-rate.ensures.reads) (go_grown _ (grown c.in_ok-byte_rate.ensures.reads) (go_grown _ (grown
    c.in_ok-align.ensures.reads) (go_grown _ (grown c.in_ok-bits_.ensures.reads) (next_grown_const _ _
    c.in_ok-read_const-5.ensures.reads (go_grown _ (grown c.in_ok-samples_bytes.ensures.reads) (go_grown _ (vec-grown _
    _ c.in_ok-samples.ensures.reads) (else_growing _ _ _ (ne_eqb _ _ (rw c.riff_number.ensures at
    c.if-not-is_riff_bytes.true)) (grown_end _ _)))))))))))))))

pub returns : goal.returns
returns g c = next_grown_const _ _ c.in_ok-read_const.ensures.reads (go_grown _ (grown
    c.in_ok-stored_riff_bytes.ensures.reads) (next_grown_const _ _ c.in_ok-read_const-2.ensures.reads (next_grown_const
    _ _ c.in_ok-read_const-3.ensures.reads (next_grown_const _ _ c.in_ok-read_const-4.ensures.reads (go_grown _ (grown
    c.in_ok-tag.ensures.reads) (go_grown _ (grown c.in_ok-channels.ensures.reads) (go_grown _ (grown
    c.in_ok-rate.ensures.reads) (go_grown _ (grown c.in_ok-byte_rate.ensures.reads) (go_grown _ (grown
    c.in_ok-align.ensures.reads) (go_grown _ (grown c.in_ok-bits_.ensures.reads) (next_grown_const _ _
    c.in_ok-read_const-5.ensures.reads (go_grown _ (grown c.in_ok-samples_bytes.ensures.reads) (go_grown _ (vec-grown _
    _ c.in_ok-samples.ensures.reads) (if_growing _ _ _ (eq-eqb _ _ (rw c.riff_number.ensures at
    c.if-not-is_riff_bytes.false)) (grown_end _ _)))))))))))))))
