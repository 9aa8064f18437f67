-- Made by `./format` from formats/stun_header.fields: edit that file and make this one anew.
use Rattle.std.proofs.Common.{refl}
use Rattle.bitstream_io.proofs.CallerLemmas.{next_own_read as next, next_own_const as next_const, exit_own_read as exit, exit_own_const as exit_const}
use Rattle.bitstream_io.proofs.OwnSteps.{own_end}
use Rattle.protocols.proofs.stun_header.StunHeader.read.Goals as goal

pub returns-in_err-read_const : goal.returns-in_err-read_const
returns-in_err-read_const g c = exit_const _ _ c.from_residual.ensures.1 c.in_err-read_const.ensures.reads refl

pub returns-in_err-kind : goal.returns-in_err-kind
returns-in_err-kind g c = next_const _ _ c.in_ok-read_const.ensures.reads (exit _ c.from_residual-in_err-kind.ensures.1
    c.in_err-kind.ensures.reads)

pub returns-in_err-length_ : goal.returns-in_err-length_
returns-in_err-length_ g c = next_const _ _ c.in_ok-read_const.ensures.reads (next _ c.in_ok-kind.ensures.reads (exit _
    c.from_residual-in_err-length_.ensures.1 c.in_err-length_.ensures.reads))

pub returns-in_err-read_const-2 : goal.returns-in_err-read_const-2
returns-in_err-read_const-2 g c = next_const _ _ c.in_ok-read_const.ensures.reads (next _ c.in_ok-kind.ensures.reads
    (next _ c.in_ok-length_.ensures.reads (exit_const _ _ c.from_residual-in_err-read_const-2.ensures.1
    c.in_err-read_const-2.ensures.reads refl)))

pub returns-in_err-id : goal.returns-in_err-id
returns-in_err-id g c = next_const _ _ c.in_ok-read_const.ensures.reads (next _ c.in_ok-kind.ensures.reads (next _
    c.in_ok-length_.ensures.reads (next_const _ _ c.in_ok-read_const-2.ensures.reads (exit _
    c.from_residual-in_err-id.ensures.1 c.in_err-id.ensures.reads))))

pub returns : goal.returns
returns g c = next_const _ _ c.in_ok-read_const.ensures.reads (next _ c.in_ok-kind.ensures.reads (next _
    c.in_ok-length_.ensures.reads (next_const _ _ c.in_ok-read_const-2.ensures.reads (next _ c.in_ok-id.ensures.reads
    (own_end _ _)))))
