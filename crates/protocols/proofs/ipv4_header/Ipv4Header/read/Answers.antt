-- Made by `./format` from formats/ipv4_header.fields: edit that file and make this one anew.
use Rattle.std.proofs.Common.{refl}
use Rattle.bitstream_io.proofs.CallerLemmas.{next_own_read as next, next_own_const as next_const, exit_own_read as exit, exit_own_const as exit_const}
use Rattle.bitstream_io.proofs.OwnSteps.{own_end}
use Rattle.protocols.proofs.ipv4_header.Ipv4Header.read.Goals as goal

pub returns-in_err-read_const : goal.returns-in_err-read_const
returns-in_err-read_const g c = exit_const _ _ c.from_residual.ensures.1 c.in_err-read_const.ensures.reads refl

pub returns-in_err-words_ : goal.returns-in_err-words_
returns-in_err-words_ g c = next_const _ _ c.in_ok-read_const.ensures.reads (exit _
    c.from_residual-in_err-words_.ensures.1 c.in_err-words_.ensures.reads)

pub returns-in_err-dscp : goal.returns-in_err-dscp
returns-in_err-dscp g c = next_const _ _ c.in_ok-read_const.ensures.reads (next _ c.in_ok-words_.ensures.reads (exit _
    c.from_residual-in_err-dscp.ensures.1 c.in_err-dscp.ensures.reads))

pub returns-in_err-ecn : goal.returns-in_err-ecn
returns-in_err-ecn g c = next_const _ _ c.in_ok-read_const.ensures.reads (next _ c.in_ok-words_.ensures.reads (next _
    c.in_ok-dscp.ensures.reads (exit _ c.from_residual-in_err-ecn.ensures.1 c.in_err-ecn.ensures)))

pub returns-in_err-size : goal.returns-in_err-size
returns-in_err-size g c = next_const _ _ c.in_ok-read_const.ensures.reads (next _ c.in_ok-words_.ensures.reads (next _
    c.in_ok-dscp.ensures.reads (next _ c.in_ok-ecn.ensures (exit _ c.from_residual-in_err-size.ensures.1
    c.in_err-size.ensures.reads))))

pub returns-in_err-id : goal.returns-in_err-id
returns-in_err-id g c = next_const _ _ c.in_ok-read_const.ensures.reads (next _ c.in_ok-words_.ensures.reads (next _
    c.in_ok-dscp.ensures.reads (next _ c.in_ok-ecn.ensures (next _ c.in_ok-size.ensures.reads (exit _
    c.from_residual-in_err-id.ensures.1 c.in_err-id.ensures.reads)))))

pub returns-in_err-read_const-2 : goal.returns-in_err-read_const-2
returns-in_err-read_const-2 g c = next_const _ _ c.in_ok-read_const.ensures.reads (next _ c.in_ok-words_.ensures.reads
    (next _ c.in_ok-dscp.ensures.reads (next _ c.in_ok-ecn.ensures (next _ c.in_ok-size.ensures.reads (next _
    c.in_ok-id.ensures.reads (exit_const _ _ c.from_residual-in_err-read_const-2.ensures.1
    c.in_err-read_const-2.ensures.reads refl))))))

pub returns-in_err-keep_whole : goal.returns-in_err-keep_whole
returns-in_err-keep_whole g c = next_const _ _ c.in_ok-read_const.ensures.reads (next _ c.in_ok-words_.ensures.reads
    (next _ c.in_ok-dscp.ensures.reads (next _ c.in_ok-ecn.ensures (next _ c.in_ok-size.ensures.reads (next _
    c.in_ok-id.ensures.reads (next_const _ _ c.in_ok-read_const-2.ensures.reads (exit _
    c.from_residual-in_err-keep_whole.ensures.1 c.in_err-keep_whole.ensures.reads)))))))

pub returns-in_err-fragments_follow : goal.returns-in_err-fragments_follow
returns-in_err-fragments_follow g c = next_const _ _ c.in_ok-read_const.ensures.reads (next _
    c.in_ok-words_.ensures.reads (next _ c.in_ok-dscp.ensures.reads (next _ c.in_ok-ecn.ensures (next _
    c.in_ok-size.ensures.reads (next _ c.in_ok-id.ensures.reads (next_const _ _ c.in_ok-read_const-2.ensures.reads (next
    _ c.in_ok-keep_whole.ensures.reads (exit _ c.from_residual-in_err-fragments_follow.ensures.1
    c.in_err-fragments_follow.ensures.reads))))))))

pub returns-in_err-offset : goal.returns-in_err-offset
returns-in_err-offset g c = next_const _ _ c.in_ok-read_const.ensures.reads (next _ c.in_ok-words_.ensures.reads (next _
    c.in_ok-dscp.ensures.reads (next _ c.in_ok-ecn.ensures (next _ c.in_ok-size.ensures.reads (next _
    c.in_ok-id.ensures.reads (next_const _ _ c.in_ok-read_const-2.ensures.reads (next _ c.in_ok-keep_whole.ensures.reads
    (next _ c.in_ok-fragments_follow.ensures.reads (exit _ c.from_residual-in_err-offset.ensures.1
    c.in_err-offset.ensures.reads)))))))))

pub returns-in_err-ttl : goal.returns-in_err-ttl
returns-in_err-ttl g c = next_const _ _ c.in_ok-read_const.ensures.reads (next _ c.in_ok-words_.ensures.reads (next _
    c.in_ok-dscp.ensures.reads (next _ c.in_ok-ecn.ensures (next _ c.in_ok-size.ensures.reads (next _
    c.in_ok-id.ensures.reads (next_const _ _ c.in_ok-read_const-2.ensures.reads (next _ c.in_ok-keep_whole.ensures.reads
    (next _ c.in_ok-fragments_follow.ensures.reads (next _ c.in_ok-offset.ensures.reads (exit _
    c.from_residual-in_err-ttl.ensures.1 c.in_err-ttl.ensures.reads))))))))))

pub returns-in_err-protocol : goal.returns-in_err-protocol
returns-in_err-protocol g c = next_const _ _ c.in_ok-read_const.ensures.reads (next _ c.in_ok-words_.ensures.reads (next
    _ c.in_ok-dscp.ensures.reads (next _ c.in_ok-ecn.ensures (next _ c.in_ok-size.ensures.reads (next _
    c.in_ok-id.ensures.reads (next_const _ _ c.in_ok-read_const-2.ensures.reads (next _ c.in_ok-keep_whole.ensures.reads
    (next _ c.in_ok-fragments_follow.ensures.reads (next _ c.in_ok-offset.ensures.reads (next _
    c.in_ok-ttl.ensures.reads (exit _ c.from_residual-in_err-protocol.ensures.1 c.in_err-protocol.ensures)))))))))))

pub returns-in_err-checksum : goal.returns-in_err-checksum
returns-in_err-checksum g c = next_const _ _ c.in_ok-read_const.ensures.reads (next _ c.in_ok-words_.ensures.reads (next
    _ c.in_ok-dscp.ensures.reads (next _ c.in_ok-ecn.ensures (next _ c.in_ok-size.ensures.reads (next _
    c.in_ok-id.ensures.reads (next_const _ _ c.in_ok-read_const-2.ensures.reads (next _ c.in_ok-keep_whole.ensures.reads
    (next _ c.in_ok-fragments_follow.ensures.reads (next _ c.in_ok-offset.ensures.reads (next _
    c.in_ok-ttl.ensures.reads (next _ c.in_ok-protocol.ensures (exit _ c.from_residual-in_err-checksum.ensures.1
    c.in_err-checksum.ensures.reads))))))))))))

pub returns-in_err-source : goal.returns-in_err-source
returns-in_err-source g c = next_const _ _ c.in_ok-read_const.ensures.reads (next _ c.in_ok-words_.ensures.reads (next _
    c.in_ok-dscp.ensures.reads (next _ c.in_ok-ecn.ensures (next _ c.in_ok-size.ensures.reads (next _
    c.in_ok-id.ensures.reads (next_const _ _ c.in_ok-read_const-2.ensures.reads (next _ c.in_ok-keep_whole.ensures.reads
    (next _ c.in_ok-fragments_follow.ensures.reads (next _ c.in_ok-offset.ensures.reads (next _
    c.in_ok-ttl.ensures.reads (next _ c.in_ok-protocol.ensures (next _ c.in_ok-checksum.ensures.reads (exit _
    c.from_residual-in_err-source.ensures.1 c.in_err-source.ensures.reads)))))))))))))

pub returns-in_err-target : goal.returns-in_err-target
returns-in_err-target g c = next_const _ _ c.in_ok-read_const.ensures.reads (next _ c.in_ok-words_.ensures.reads (next _
    c.in_ok-dscp.ensures.reads (next _ c.in_ok-ecn.ensures (next _ c.in_ok-size.ensures.reads (next _
    c.in_ok-id.ensures.reads (next_const _ _ c.in_ok-read_const-2.ensures.reads (next _ c.in_ok-keep_whole.ensures.reads
    (next _ c.in_ok-fragments_follow.ensures.reads (next _ c.in_ok-offset.ensures.reads (next _
    c.in_ok-ttl.ensures.reads (next _ c.in_ok-protocol.ensures (next _ c.in_ok-checksum.ensures.reads (next _
    c.in_ok-source.ensures.reads (exit _ c.from_residual-in_err-target.ensures.1
    c.in_err-target.ensures.reads))))))))))))))

pub returns : goal.returns
returns g c = next_const _ _ c.in_ok-read_const.ensures.reads (next _ c.in_ok-words_.ensures.reads (next _
    c.in_ok-dscp.ensures.reads (next _ c.in_ok-ecn.ensures (next _ c.in_ok-size.ensures.reads (next _
    c.in_ok-id.ensures.reads (next_const _ _ c.in_ok-read_const-2.ensures.reads (next _ c.in_ok-keep_whole.ensures.reads
    (next _ c.in_ok-fragments_follow.ensures.reads (next _ c.in_ok-offset.ensures.reads (next _
    c.in_ok-ttl.ensures.reads (next _ c.in_ok-protocol.ensures (next _ c.in_ok-checksum.ensures.reads (next _
    c.in_ok-source.ensures.reads (next _ c.in_ok-target.ensures.reads (own_end _ _)))))))))))))))
