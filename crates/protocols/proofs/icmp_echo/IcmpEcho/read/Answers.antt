-- Made by `./format` from formats/icmp_echo.fields: edit that file and make this one anew.
use Rattle.std.proofs.Common.{refl}
use Rattle.bitstream_io.proofs.CallerLemmas.{next_own_read as next, next_own_const as next_const, exit_own_read as exit, exit_own_const as exit_const}
use Rattle.bitstream_io.proofs.OwnSteps.{then_part, end_part, own_end}
use Rattle.protocols.proofs.icmp_echo.IcmpEcho.read.Goals as goal

pub returns-in_err-kind : goal.returns-in_err-kind
returns-in_err-kind g c = end_part _ c.in_err-kind.ensures refl refl c.from_residual.ensures.1

pub returns-in_err-read_const : goal.returns-in_err-read_const
returns-in_err-read_const g c = then_part _ c.in_ok-kind.ensures refl refl (exit_const _ _
    c.from_residual-in_err-read_const.ensures.1 c.in_err-read_const.ensures.reads refl)

pub returns-in_err-checksum : goal.returns-in_err-checksum
returns-in_err-checksum g c = then_part _ c.in_ok-kind.ensures refl refl (next_const _ _
    c.in_ok-read_const.ensures.reads (exit _ c.from_residual-in_err-checksum.ensures.1 c.in_err-checksum.ensures.reads))

pub returns-in_err-identifier : goal.returns-in_err-identifier
returns-in_err-identifier g c = then_part _ c.in_ok-kind.ensures refl refl (next_const _ _
    c.in_ok-read_const.ensures.reads (next _ c.in_ok-checksum.ensures.reads (exit _
    c.from_residual-in_err-identifier.ensures.1 c.in_err-identifier.ensures.reads)))

pub returns-in_err-sequence : goal.returns-in_err-sequence
returns-in_err-sequence g c = then_part _ c.in_ok-kind.ensures refl refl (next_const _ _
    c.in_ok-read_const.ensures.reads (next _ c.in_ok-checksum.ensures.reads (next _ c.in_ok-identifier.ensures.reads
    (exit _ c.from_residual-in_err-sequence.ensures.1 c.in_err-sequence.ensures.reads))))

pub returns : goal.returns
returns g c = then_part _ c.in_ok-kind.ensures refl refl (next_const _ _ c.in_ok-read_const.ensures.reads (next _
    c.in_ok-checksum.ensures.reads (next _ c.in_ok-identifier.ensures.reads (next _ c.in_ok-sequence.ensures.reads
    (own_end _ _)))))
