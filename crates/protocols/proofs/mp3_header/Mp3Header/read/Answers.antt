-- Made by `./format` from formats/mp3_header.fields: edit that file and make this one anew.
use Rattle.std.proofs.Common.{refl}
use Rattle.bitstream_io.proofs.CallerLemmas.{next_own_read as next, next_own_const as next_const, exit_own_read as exit, exit_own_const as exit_const}
use Rattle.bitstream_io.proofs.OwnSteps.{then_part, end_part, own_end}
use Rattle.protocols.proofs.mp3_header.Mp3Header.read.Goals as goal

pub returns-in_err-read_const : goal.returns-in_err-read_const
returns-in_err-read_const g c = exit_const _ _ c.from_residual.ensures.1 c.in_err-read_const.ensures.reads refl

pub returns-in_err-version : goal.returns-in_err-version
returns-in_err-version g c = next_const _ _ c.in_ok-read_const.ensures.reads (end_part _ c.in_err-version.ensures refl
    refl c.from_residual-in_err-version.ensures.1)

pub returns-in_err-layer : goal.returns-in_err-layer
returns-in_err-layer g c = next_const _ _ c.in_ok-read_const.ensures.reads (then_part _ c.in_ok-version.ensures refl
    refl (end_part _ c.in_err-layer.ensures refl refl c.from_residual-in_err-layer.ensures.1))

pub returns-in_err-protection_absent : goal.returns-in_err-protection_absent
returns-in_err-protection_absent g c = next_const _ _ c.in_ok-read_const.ensures.reads (then_part _
    c.in_ok-version.ensures refl refl (then_part _ c.in_ok-layer.ensures refl refl (exit _
    c.from_residual-in_err-protection_absent.ensures.1 c.in_err-protection_absent.ensures.reads)))

pub returns-in_err-bitrate : goal.returns-in_err-bitrate
returns-in_err-bitrate g c = next_const _ _ c.in_ok-read_const.ensures.reads (then_part _ c.in_ok-version.ensures refl
    refl (then_part _ c.in_ok-layer.ensures refl refl (next _ c.in_ok-protection_absent.ensures.reads (exit _
    c.from_residual-in_err-bitrate.ensures.1 c.in_err-bitrate.ensures.reads))))

pub returns-in_err-frequency : goal.returns-in_err-frequency
returns-in_err-frequency g c = next_const _ _ c.in_ok-read_const.ensures.reads (then_part _ c.in_ok-version.ensures refl
    refl (then_part _ c.in_ok-layer.ensures refl refl (next _ c.in_ok-protection_absent.ensures.reads (next _
    c.in_ok-bitrate.ensures.reads (exit _ c.from_residual-in_err-frequency.ensures.1
    c.in_err-frequency.ensures.reads)))))

pub returns-in_err-padding : goal.returns-in_err-padding
returns-in_err-padding g c = next_const _ _ c.in_ok-read_const.ensures.reads (then_part _ c.in_ok-version.ensures refl
    refl (then_part _ c.in_ok-layer.ensures refl refl (next _ c.in_ok-protection_absent.ensures.reads (next _
    c.in_ok-bitrate.ensures.reads (next _ c.in_ok-frequency.ensures.reads (exit _
    c.from_residual-in_err-padding.ensures.1 c.in_err-padding.ensures.reads))))))

pub returns-in_err-private : goal.returns-in_err-private
returns-in_err-private g c = next_const _ _ c.in_ok-read_const.ensures.reads (then_part _ c.in_ok-version.ensures refl
    refl (then_part _ c.in_ok-layer.ensures refl refl (next _ c.in_ok-protection_absent.ensures.reads (next _
    c.in_ok-bitrate.ensures.reads (next _ c.in_ok-frequency.ensures.reads (next _ c.in_ok-padding.ensures.reads (exit _
    c.from_residual-in_err-private.ensures.1 c.in_err-private.ensures.reads)))))))

pub returns-in_err-mode : goal.returns-in_err-mode
returns-in_err-mode g c = next_const _ _ c.in_ok-read_const.ensures.reads (then_part _ c.in_ok-version.ensures refl refl
    (then_part _ c.in_ok-layer.ensures refl refl (next _ c.in_ok-protection_absent.ensures.reads (next _
    c.in_ok-bitrate.ensures.reads (next _ c.in_ok-frequency.ensures.reads (next _ c.in_ok-padding.ensures.reads (next _
    c.in_ok-private.ensures.reads (exit _ c.from_residual-in_err-mode.ensures.1 c.in_err-mode.ensures))))))))

pub returns-in_err-extension : goal.returns-in_err-extension
returns-in_err-extension g c = next_const _ _ c.in_ok-read_const.ensures.reads (then_part _ c.in_ok-version.ensures refl
    refl (then_part _ c.in_ok-layer.ensures refl refl (next _ c.in_ok-protection_absent.ensures.reads (next _
    c.in_ok-bitrate.ensures.reads (next _ c.in_ok-frequency.ensures.reads (next _ c.in_ok-padding.ensures.reads (next _
    c.in_ok-private.ensures.reads (next _ c.in_ok-mode.ensures (exit _ c.from_residual-in_err-extension.ensures.1
    c.in_err-extension.ensures.reads)))))))))

pub returns-in_err-copyright : goal.returns-in_err-copyright
returns-in_err-copyright g c = next_const _ _ c.in_ok-read_const.ensures.reads (then_part _ c.in_ok-version.ensures refl
    refl (then_part _ c.in_ok-layer.ensures refl refl (next _ c.in_ok-protection_absent.ensures.reads (next _
    c.in_ok-bitrate.ensures.reads (next _ c.in_ok-frequency.ensures.reads (next _ c.in_ok-padding.ensures.reads (next _
    c.in_ok-private.ensures.reads (next _ c.in_ok-mode.ensures (next _ c.in_ok-extension.ensures.reads (exit _
    c.from_residual-in_err-copyright.ensures.1 c.in_err-copyright.ensures.reads))))))))))

pub returns-in_err-original : goal.returns-in_err-original
returns-in_err-original g c = next_const _ _ c.in_ok-read_const.ensures.reads (then_part _ c.in_ok-version.ensures refl
    refl (then_part _ c.in_ok-layer.ensures refl refl (next _ c.in_ok-protection_absent.ensures.reads (next _
    c.in_ok-bitrate.ensures.reads (next _ c.in_ok-frequency.ensures.reads (next _ c.in_ok-padding.ensures.reads (next _
    c.in_ok-private.ensures.reads (next _ c.in_ok-mode.ensures (next _ c.in_ok-extension.ensures.reads (next _
    c.in_ok-copyright.ensures.reads (exit _ c.from_residual-in_err-original.ensures.1
    c.in_err-original.ensures.reads)))))))))))

pub returns-in_err-emphasis : goal.returns-in_err-emphasis
returns-in_err-emphasis g c = next_const _ _ c.in_ok-read_const.ensures.reads (then_part _ c.in_ok-version.ensures refl
    refl (then_part _ c.in_ok-layer.ensures refl refl (next _ c.in_ok-protection_absent.ensures.reads (next _
    c.in_ok-bitrate.ensures.reads (next _ c.in_ok-frequency.ensures.reads (next _ c.in_ok-padding.ensures.reads (next _
    c.in_ok-private.ensures.reads (next _ c.in_ok-mode.ensures (next _ c.in_ok-extension.ensures.reads (next _
    c.in_ok-copyright.ensures.reads (next _ c.in_ok-original.ensures.reads (exit _
    c.from_residual-in_err-emphasis.ensures.1 c.in_err-emphasis.ensures.reads))))))))))))

pub returns : goal.returns
returns g c = next_const _ _ c.in_ok-read_const.ensures.reads (then_part _ c.in_ok-version.ensures refl refl (then_part
    _ c.in_ok-layer.ensures refl refl (next _ c.in_ok-protection_absent.ensures.reads (next _
    c.in_ok-bitrate.ensures.reads (next _ c.in_ok-frequency.ensures.reads (next _ c.in_ok-padding.ensures.reads (next _
    c.in_ok-private.ensures.reads (next _ c.in_ok-mode.ensures (next _ c.in_ok-extension.ensures.reads (next _
    c.in_ok-copyright.ensures.reads (next _ c.in_ok-original.ensures.reads (next _ c.in_ok-emphasis.ensures.reads
    (own_end _ _)))))))))))))
