-- Made by `./format` from formats/ipv6_header.fields: edit that file and make this one anew.
use Rattle.std.proofs.Common.{refl}
use Rattle.bitstream_io.proofs.CallerLemmas.{next_own_read as next, next_own_const as next_const, exit_own_read as exit, exit_own_const as exit_const}
use Rattle.bitstream_io.proofs.OwnSteps.{own_end}
use Rattle.protocols.proofs.ipv6_header.Ipv6Header.read.Goals as goal

pub returns-in_err-read_const : goal.returns-in_err-read_const
returns-in_err-read_const g c = exit_const _ _ c.from_residual.ensures.1 c.in_err-read_const.ensures.reads refl

pub returns-in_err-dscp : goal.returns-in_err-dscp
returns-in_err-dscp g c = next_const _ _ c.in_ok-read_const.ensures.reads (exit _ c.from_residual-in_err-dscp.ensures.1
    c.in_err-dscp.ensures.reads)

pub returns-in_err-ecn : goal.returns-in_err-ecn
returns-in_err-ecn g c = next_const _ _ c.in_ok-read_const.ensures.reads (next _ c.in_ok-dscp.ensures.reads (exit _
    c.from_residual-in_err-ecn.ensures.1 c.in_err-ecn.ensures))

pub returns-in_err-flow : goal.returns-in_err-flow
returns-in_err-flow g c = next_const _ _ c.in_ok-read_const.ensures.reads (next _ c.in_ok-dscp.ensures.reads (next _
    c.in_ok-ecn.ensures (exit _ c.from_residual-in_err-flow.ensures.1 c.in_err-flow.ensures.reads)))

pub returns-in_err-payload_size : goal.returns-in_err-payload_size
returns-in_err-payload_size g c = next_const _ _ c.in_ok-read_const.ensures.reads (next _ c.in_ok-dscp.ensures.reads
    (next _ c.in_ok-ecn.ensures (next _ c.in_ok-flow.ensures.reads (exit _ c.from_residual-in_err-payload_size.ensures.1
    c.in_err-payload_size.ensures.reads))))

pub returns-in_err-following : goal.returns-in_err-following
returns-in_err-following g c = next_const _ _ c.in_ok-read_const.ensures.reads (next _ c.in_ok-dscp.ensures.reads (next
    _ c.in_ok-ecn.ensures (next _ c.in_ok-flow.ensures.reads (next _ c.in_ok-payload_size.ensures.reads (exit _
    c.from_residual-in_err-following.ensures.1 c.in_err-following.ensures)))))

pub returns-in_err-hop_limit : goal.returns-in_err-hop_limit
returns-in_err-hop_limit g c = next_const _ _ c.in_ok-read_const.ensures.reads (next _ c.in_ok-dscp.ensures.reads (next
    _ c.in_ok-ecn.ensures (next _ c.in_ok-flow.ensures.reads (next _ c.in_ok-payload_size.ensures.reads (next _
    c.in_ok-following.ensures (exit _ c.from_residual-in_err-hop_limit.ensures.1 c.in_err-hop_limit.ensures.reads))))))

pub returns-in_err-source : goal.returns-in_err-source
returns-in_err-source g c = next_const _ _ c.in_ok-read_const.ensures.reads (next _ c.in_ok-dscp.ensures.reads (next _
    c.in_ok-ecn.ensures (next _ c.in_ok-flow.ensures.reads (next _ c.in_ok-payload_size.ensures.reads (next _
    c.in_ok-following.ensures (next _ c.in_ok-hop_limit.ensures.reads (exit _ c.from_residual-in_err-source.ensures.1
    c.in_err-source.ensures.reads)))))))

pub returns-in_err-target : goal.returns-in_err-target
returns-in_err-target g c = next_const _ _ c.in_ok-read_const.ensures.reads (next _ c.in_ok-dscp.ensures.reads (next _
    c.in_ok-ecn.ensures (next _ c.in_ok-flow.ensures.reads (next _ c.in_ok-payload_size.ensures.reads (next _
    c.in_ok-following.ensures (next _ c.in_ok-hop_limit.ensures.reads (next _ c.in_ok-source.ensures.reads (exit _
    c.from_residual-in_err-target.ensures.1 c.in_err-target.ensures.reads))))))))

pub returns : goal.returns
returns g c = next_const _ _ c.in_ok-read_const.ensures.reads (next _ c.in_ok-dscp.ensures.reads (next _
    c.in_ok-ecn.ensures (next _ c.in_ok-flow.ensures.reads (next _ c.in_ok-payload_size.ensures.reads (next _
    c.in_ok-following.ensures (next _ c.in_ok-hop_limit.ensures.reads (next _ c.in_ok-source.ensures.reads (next _
    c.in_ok-target.ensures.reads (own_end _ _)))))))))
