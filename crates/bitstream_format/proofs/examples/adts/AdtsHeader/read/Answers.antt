-- Made by `./answers` from src/examples/adts.rt: when that changes make this one anew.
use Rattle.std.proofs.Common.{refl}
use Rattle.bitstream_io.proofs.CallerLemmas.{next_own_read as next, next_own_const as next_const, exit_own_read as exit, exit_own_const as exit_const}
use Rattle.bitstream_io.proofs.OwnSteps.{own_end}
use Rattle.bitstream_format.proofs.examples.adts.AdtsHeader.read.Goals as goal

pub returns-in_err-read_const : goal.returns-in_err-read_const
returns-in_err-read_const g c = exit_const _ _ c.from_residual.ensures.1 c.in_err-read_const.ensures.reads refl

pub returns-in_err-mpeg_2 : goal.returns-in_err-mpeg_2
returns-in_err-mpeg_2 g c = next_const _ _ c.in_ok-read_const.ensures.reads (exit _
    c.from_residual-in_err-mpeg_2.ensures.1 c.in_err-mpeg_2.ensures.reads)

pub returns-in_err-read_const-2 : goal.returns-in_err-read_const-2
returns-in_err-read_const-2 g c = next_const _ _ c.in_ok-read_const.ensures.reads (next _ c.in_ok-mpeg_2.ensures.reads
    (exit_const _ _ c.from_residual-in_err-read_const-2.ensures.1 c.in_err-read_const-2.ensures.reads refl))

pub returns-in_err-protection_absent : goal.returns-in_err-protection_absent
returns-in_err-protection_absent g c = next_const _ _ c.in_ok-read_const.ensures.reads (next _
    c.in_ok-mpeg_2.ensures.reads (next_const _ _ c.in_ok-read_const-2.ensures.reads (exit _
    c.from_residual-in_err-protection_absent.ensures.1 c.in_err-protection_absent.ensures.reads)))

pub returns-in_err-profile : goal.returns-in_err-profile
returns-in_err-profile g c = next_const _ _ c.in_ok-read_const.ensures.reads (next _ c.in_ok-mpeg_2.ensures.reads
    (next_const _ _ c.in_ok-read_const-2.ensures.reads (next _ c.in_ok-protection_absent.ensures.reads (exit _
    c.from_residual-in_err-profile.ensures.1 c.in_err-profile.ensures.reads))))

pub returns-in_err-frequency : goal.returns-in_err-frequency
returns-in_err-frequency g c = next_const _ _ c.in_ok-read_const.ensures.reads (next _ c.in_ok-mpeg_2.ensures.reads
    (next_const _ _ c.in_ok-read_const-2.ensures.reads (next _ c.in_ok-protection_absent.ensures.reads (next _
    c.in_ok-profile.ensures.reads (exit _ c.from_residual-in_err-frequency.ensures.1
    c.in_err-frequency.ensures.reads)))))

pub returns-in_err-private : goal.returns-in_err-private
returns-in_err-private g c = next_const _ _ c.in_ok-read_const.ensures.reads (next _ c.in_ok-mpeg_2.ensures.reads
    (next_const _ _ c.in_ok-read_const-2.ensures.reads (next _ c.in_ok-protection_absent.ensures.reads (next _
    c.in_ok-profile.ensures.reads (next _ c.in_ok-frequency.ensures.reads (exit _
    c.from_residual-in_err-private.ensures.1 c.in_err-private.ensures.reads))))))

pub returns-in_err-channels : goal.returns-in_err-channels
returns-in_err-channels g c = next_const _ _ c.in_ok-read_const.ensures.reads (next _ c.in_ok-mpeg_2.ensures.reads
    (next_const _ _ c.in_ok-read_const-2.ensures.reads (next _ c.in_ok-protection_absent.ensures.reads (next _
    c.in_ok-profile.ensures.reads (next _ c.in_ok-frequency.ensures.reads (next _ c.in_ok-private.ensures.reads (exit _
    c.from_residual-in_err-channels.ensures.1 c.in_err-channels.ensures.reads)))))))

pub returns-in_err-original : goal.returns-in_err-original
returns-in_err-original g c = next_const _ _ c.in_ok-read_const.ensures.reads (next _ c.in_ok-mpeg_2.ensures.reads
    (next_const _ _ c.in_ok-read_const-2.ensures.reads (next _ c.in_ok-protection_absent.ensures.reads (next _
    c.in_ok-profile.ensures.reads (next _ c.in_ok-frequency.ensures.reads (next _ c.in_ok-private.ensures.reads (next _
    c.in_ok-channels.ensures.reads (exit _ c.from_residual-in_err-original.ensures.1
    c.in_err-original.ensures.reads))))))))

pub returns-in_err-home : goal.returns-in_err-home
returns-in_err-home g c = next_const _ _ c.in_ok-read_const.ensures.reads (next _ c.in_ok-mpeg_2.ensures.reads
    (next_const _ _ c.in_ok-read_const-2.ensures.reads (next _ c.in_ok-protection_absent.ensures.reads (next _
    c.in_ok-profile.ensures.reads (next _ c.in_ok-frequency.ensures.reads (next _ c.in_ok-private.ensures.reads (next _
    c.in_ok-channels.ensures.reads (next _ c.in_ok-original.ensures.reads (exit _ c.from_residual-in_err-home.ensures.1
    c.in_err-home.ensures.reads)))))))))

pub returns-in_err-copyright_id : goal.returns-in_err-copyright_id
returns-in_err-copyright_id g c = next_const _ _ c.in_ok-read_const.ensures.reads (next _ c.in_ok-mpeg_2.ensures.reads
    (next_const _ _ c.in_ok-read_const-2.ensures.reads (next _ c.in_ok-protection_absent.ensures.reads (next _
    c.in_ok-profile.ensures.reads (next _ c.in_ok-frequency.ensures.reads (next _ c.in_ok-private.ensures.reads (next _
    c.in_ok-channels.ensures.reads (next _ c.in_ok-original.ensures.reads (next _ c.in_ok-home.ensures.reads (exit _
    c.from_residual-in_err-copyright_id.ensures.1 c.in_err-copyright_id.ensures.reads))))))))))

pub returns-in_err-copyright_start : goal.returns-in_err-copyright_start
returns-in_err-copyright_start g c = next_const _ _ c.in_ok-read_const.ensures.reads (next _
    c.in_ok-mpeg_2.ensures.reads (next_const _ _ c.in_ok-read_const-2.ensures.reads (next _
    c.in_ok-protection_absent.ensures.reads (next _ c.in_ok-profile.ensures.reads (next _
    c.in_ok-frequency.ensures.reads (next _ c.in_ok-private.ensures.reads (next _ c.in_ok-channels.ensures.reads (next _
    c.in_ok-original.ensures.reads (next _ c.in_ok-home.ensures.reads (next _ c.in_ok-copyright_id.ensures.reads (exit _
    c.from_residual-in_err-copyright_start.ensures.1 c.in_err-copyright_start.ensures.reads)))))))))))

pub returns-in_err-frame_length : goal.returns-in_err-frame_length
returns-in_err-frame_length g c = next_const _ _ c.in_ok-read_const.ensures.reads (next _ c.in_ok-mpeg_2.ensures.reads
    (next_const _ _ c.in_ok-read_const-2.ensures.reads (next _ c.in_ok-protection_absent.ensures.reads (next _
    c.in_ok-profile.ensures.reads (next _ c.in_ok-frequency.ensures.reads (next _ c.in_ok-private.ensures.reads (next _
    c.in_ok-channels.ensures.reads (next _ c.in_ok-original.ensures.reads (next _ c.in_ok-home.ensures.reads (next _
    c.in_ok-copyright_id.ensures.reads (next _ c.in_ok-copyright_start.ensures.reads (exit _
    c.from_residual-in_err-frame_length.ensures.1 c.in_err-frame_length.ensures.reads))))))))))))

pub returns-in_err-fullness : goal.returns-in_err-fullness
returns-in_err-fullness g c = next_const _ _ c.in_ok-read_const.ensures.reads (next _ c.in_ok-mpeg_2.ensures.reads
    (next_const _ _ c.in_ok-read_const-2.ensures.reads (next _ c.in_ok-protection_absent.ensures.reads (next _
    c.in_ok-profile.ensures.reads (next _ c.in_ok-frequency.ensures.reads (next _ c.in_ok-private.ensures.reads (next _
    c.in_ok-channels.ensures.reads (next _ c.in_ok-original.ensures.reads (next _ c.in_ok-home.ensures.reads (next _
    c.in_ok-copyright_id.ensures.reads (next _ c.in_ok-copyright_start.ensures.reads (next _
    c.in_ok-frame_length.ensures.reads (exit _ c.from_residual-in_err-fullness.ensures.1
    c.in_err-fullness.ensures.reads)))))))))))))

pub returns-in_err-blocks : goal.returns-in_err-blocks
returns-in_err-blocks g c = next_const _ _ c.in_ok-read_const.ensures.reads (next _ c.in_ok-mpeg_2.ensures.reads
    (next_const _ _ c.in_ok-read_const-2.ensures.reads (next _ c.in_ok-protection_absent.ensures.reads (next _
    c.in_ok-profile.ensures.reads (next _ c.in_ok-frequency.ensures.reads (next _ c.in_ok-private.ensures.reads (next _
    c.in_ok-channels.ensures.reads (next _ c.in_ok-original.ensures.reads (next _ c.in_ok-home.ensures.reads (next _
    c.in_ok-copyright_id.ensures.reads (next _ c.in_ok-copyright_start.ensures.reads (next _
    c.in_ok-frame_length.ensures.reads (next _ c.in_ok-fullness.ensures.reads (exit _
    c.from_residual-in_err-blocks.ensures.1 c.in_err-blocks.ensures.reads))))))))))))))

pub returns : goal.returns
returns g c = next_const _ _ c.in_ok-read_const.ensures.reads (next _ c.in_ok-mpeg_2.ensures.reads (next_const _ _
    c.in_ok-read_const-2.ensures.reads (next _ c.in_ok-protection_absent.ensures.reads (next _
    c.in_ok-profile.ensures.reads (next _ c.in_ok-frequency.ensures.reads (next _ c.in_ok-private.ensures.reads (next _
    c.in_ok-channels.ensures.reads (next _ c.in_ok-original.ensures.reads (next _ c.in_ok-home.ensures.reads (next _
    c.in_ok-copyright_id.ensures.reads (next _ c.in_ok-copyright_start.ensures.reads (next _
    c.in_ok-frame_length.ensures.reads (next _ c.in_ok-fullness.ensures.reads (next _ c.in_ok-blocks.ensures.reads
    (own_end _ _)))))))))))))))
