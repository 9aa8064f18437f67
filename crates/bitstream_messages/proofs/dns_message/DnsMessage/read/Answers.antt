-- Made by `./format` from formats/dns_message.fields: edit that file and make this one anew.
use Rattle.std.proofs.Common.{refl}
use Rattle.bitstream_io.proofs.CallerLemmas.{next_grown_const, exit_grown_const}
use Rattle.bitstream_io.proofs.GrowsLemmas.{go_grown, stop_grown, grown}
use Rattle.bitstream_messages.proofs.dns_message.DnsMessage.read.Goals as goal

pub returns-in_err-id : goal.returns-in_err-id
returns-in_err-id g c = stop_grown _ (grown c.in_err-id.ensures.reads) c.from_residual.ensures.1

pub returns-in_err-response : goal.returns-in_err-response
returns-in_err-response g c = go_grown _ (grown c.in_ok-id.ensures.reads) (stop_grown _ (grown
    c.in_err-response.ensures.reads) c.from_residual-in_err-response.ensures.1)

pub returns-in_err-opcode : goal.returns-in_err-opcode
returns-in_err-opcode g c = go_grown _ (grown c.in_ok-id.ensures.reads) (go_grown _ (grown
    c.in_ok-response.ensures.reads) (stop_grown _ (grown c.in_err-opcode.ensures.reads)
    c.from_residual-in_err-opcode.ensures.1))

pub returns-in_err-authoritative : goal.returns-in_err-authoritative
returns-in_err-authoritative g c = go_grown _ (grown c.in_ok-id.ensures.reads) (go_grown _ (grown
    c.in_ok-response.ensures.reads) (go_grown _ (grown c.in_ok-opcode.ensures.reads) (stop_grown _ (grown
    c.in_err-authoritative.ensures.reads) c.from_residual-in_err-authoritative.ensures.1)))

pub returns-in_err-truncated : goal.returns-in_err-truncated
returns-in_err-truncated g c = go_grown _ (grown c.in_ok-id.ensures.reads) (go_grown _ (grown
    c.in_ok-response.ensures.reads) (go_grown _ (grown c.in_ok-opcode.ensures.reads) (go_grown _ (grown
    c.in_ok-authoritative.ensures.reads) (stop_grown _ (grown c.in_err-truncated.ensures.reads)
    c.from_residual-in_err-truncated.ensures.1))))

pub returns-in_err-recursion : goal.returns-in_err-recursion
returns-in_err-recursion g c = go_grown _ (grown c.in_ok-id.ensures.reads) (go_grown _ (grown
    c.in_ok-response.ensures.reads) (go_grown _ (grown c.in_ok-opcode.ensures.reads) (go_grown _ (grown
    c.in_ok-authoritative.ensures.reads) (go_grown _ (grown c.in_ok-truncated.ensures.reads) (stop_grown _ (grown
    c.in_err-recursion.ensures.reads) c.from_residual-in_err-recursion.ensures.1)))))

pub returns-in_err-available : goal.returns-in_err-available
returns-in_err-available g c = go_grown _ (grown c.in_ok-id.ensures.reads) (go_grown _ (grown
    c.in_ok-response.ensures.reads) (go_grown _ (grown c.in_ok-opcode.ensures.reads) (go_grown _ (grown
    c.in_ok-authoritative.ensures.reads) (go_grown _ (grown c.in_ok-truncated.ensures.reads) (go_grown _ (grown
    c.in_ok-recursion.ensures.reads) (stop_grown _ (grown c.in_err-available.ensures.reads)
    c.from_residual-in_err-available.ensures.1))))))

pub returns-in_err-read_const : goal.returns-in_err-read_const
returns-in_err-read_const g c = go_grown _ (grown c.in_ok-id.ensures.reads) (go_grown _ (grown
    c.in_ok-response.ensures.reads) (go_grown _ (grown c.in_ok-opcode.ensures.reads) (go_grown _ (grown
    c.in_ok-authoritative.ensures.reads) (go_grown _ (grown c.in_ok-truncated.ensures.reads) (go_grown _ (grown
    c.in_ok-recursion.ensures.reads) (go_grown _ (grown c.in_ok-available.ensures.reads) (exit_grown_const _ _
    c.from_residual-in_err-read_const.ensures.1 c.in_err-read_const.ensures.reads refl)))))))

pub returns : goal.returns
returns g c = go_grown _ (grown c.in_ok-id.ensures.reads) (go_grown _ (grown c.in_ok-response.ensures.reads) (go_grown _
    (grown c.in_ok-opcode.ensures.reads) (go_grown _ (grown c.in_ok-authoritative.ensures.reads) (go_grown _ (grown
    c.in_ok-truncated.ensures.reads) (go_grown _ (grown c.in_ok-recursion.ensures.reads) (go_grown _ (grown
    c.in_ok-available.ensures.reads) (next_grown_const _ _ c.in_ok-read_const.ensures.reads c.read_2.ensures)))))))
