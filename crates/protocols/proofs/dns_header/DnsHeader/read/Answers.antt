-- Made by `./format` from formats/dns_header.fields: edit that file and make this one anew.
use Rattle.std.proofs.Common.{refl}
use Rattle.bitstream_io.proofs.CallerLemmas.{next_own_read as next, next_own_const as next_const, exit_own_read as exit, exit_own_const as exit_const}
use Rattle.bitstream_io.proofs.OwnSteps.{own_end}
use Rattle.protocols.proofs.dns_header.DnsHeader.read.Goals as goal

pub returns-in_err-id : goal.returns-in_err-id
returns-in_err-id g c = exit _ c.from_residual.ensures.1 c.in_err-id.ensures.reads

pub returns-in_err-response : goal.returns-in_err-response
returns-in_err-response g c = next _ c.in_ok-id.ensures.reads (exit _ c.from_residual-in_err-response.ensures.1
    c.in_err-response.ensures.reads)

pub returns-in_err-opcode : goal.returns-in_err-opcode
returns-in_err-opcode g c = next _ c.in_ok-id.ensures.reads (next _ c.in_ok-response.ensures.reads (exit _
    c.from_residual-in_err-opcode.ensures.1 c.in_err-opcode.ensures.reads))

pub returns-in_err-authoritative : goal.returns-in_err-authoritative
returns-in_err-authoritative g c = next _ c.in_ok-id.ensures.reads (next _ c.in_ok-response.ensures.reads (next _
    c.in_ok-opcode.ensures.reads (exit _ c.from_residual-in_err-authoritative.ensures.1
    c.in_err-authoritative.ensures.reads)))

pub returns-in_err-truncated : goal.returns-in_err-truncated
returns-in_err-truncated g c = next _ c.in_ok-id.ensures.reads (next _ c.in_ok-response.ensures.reads (next _
    c.in_ok-opcode.ensures.reads (next _ c.in_ok-authoritative.ensures.reads (exit _
    c.from_residual-in_err-truncated.ensures.1 c.in_err-truncated.ensures.reads))))

pub returns-in_err-recursion : goal.returns-in_err-recursion
returns-in_err-recursion g c = next _ c.in_ok-id.ensures.reads (next _ c.in_ok-response.ensures.reads (next _
    c.in_ok-opcode.ensures.reads (next _ c.in_ok-authoritative.ensures.reads (next _ c.in_ok-truncated.ensures.reads
    (exit _ c.from_residual-in_err-recursion.ensures.1 c.in_err-recursion.ensures.reads)))))

pub returns-in_err-available : goal.returns-in_err-available
returns-in_err-available g c = next _ c.in_ok-id.ensures.reads (next _ c.in_ok-response.ensures.reads (next _
    c.in_ok-opcode.ensures.reads (next _ c.in_ok-authoritative.ensures.reads (next _ c.in_ok-truncated.ensures.reads
    (next _ c.in_ok-recursion.ensures.reads (exit _ c.from_residual-in_err-available.ensures.1
    c.in_err-available.ensures.reads))))))

pub returns-in_err-read_const : goal.returns-in_err-read_const
returns-in_err-read_const g c = next _ c.in_ok-id.ensures.reads (next _ c.in_ok-response.ensures.reads (next _
    c.in_ok-opcode.ensures.reads (next _ c.in_ok-authoritative.ensures.reads (next _ c.in_ok-truncated.ensures.reads
    (next _ c.in_ok-recursion.ensures.reads (next _ c.in_ok-available.ensures.reads (exit_const _ _
    c.from_residual-in_err-read_const.ensures.1 c.in_err-read_const.ensures.reads refl)))))))

pub returns-in_err-authentic : goal.returns-in_err-authentic
returns-in_err-authentic g c = next _ c.in_ok-id.ensures.reads (next _ c.in_ok-response.ensures.reads (next _
    c.in_ok-opcode.ensures.reads (next _ c.in_ok-authoritative.ensures.reads (next _ c.in_ok-truncated.ensures.reads
    (next _ c.in_ok-recursion.ensures.reads (next _ c.in_ok-available.ensures.reads (next_const _ _
    c.in_ok-read_const.ensures.reads (exit _ c.from_residual-in_err-authentic.ensures.1
    c.in_err-authentic.ensures.reads))))))))

pub returns-in_err-unchecked : goal.returns-in_err-unchecked
returns-in_err-unchecked g c = next _ c.in_ok-id.ensures.reads (next _ c.in_ok-response.ensures.reads (next _
    c.in_ok-opcode.ensures.reads (next _ c.in_ok-authoritative.ensures.reads (next _ c.in_ok-truncated.ensures.reads
    (next _ c.in_ok-recursion.ensures.reads (next _ c.in_ok-available.ensures.reads (next_const _ _
    c.in_ok-read_const.ensures.reads (next _ c.in_ok-authentic.ensures.reads (exit _
    c.from_residual-in_err-unchecked.ensures.1 c.in_err-unchecked.ensures.reads)))))))))

pub returns-in_err-code : goal.returns-in_err-code
returns-in_err-code g c = next _ c.in_ok-id.ensures.reads (next _ c.in_ok-response.ensures.reads (next _
    c.in_ok-opcode.ensures.reads (next _ c.in_ok-authoritative.ensures.reads (next _ c.in_ok-truncated.ensures.reads
    (next _ c.in_ok-recursion.ensures.reads (next _ c.in_ok-available.ensures.reads (next_const _ _
    c.in_ok-read_const.ensures.reads (next _ c.in_ok-authentic.ensures.reads (next _ c.in_ok-unchecked.ensures.reads
    (exit _ c.from_residual-in_err-code.ensures.1 c.in_err-code.ensures))))))))))

pub returns-in_err-questions : goal.returns-in_err-questions
returns-in_err-questions g c = next _ c.in_ok-id.ensures.reads (next _ c.in_ok-response.ensures.reads (next _
    c.in_ok-opcode.ensures.reads (next _ c.in_ok-authoritative.ensures.reads (next _ c.in_ok-truncated.ensures.reads
    (next _ c.in_ok-recursion.ensures.reads (next _ c.in_ok-available.ensures.reads (next_const _ _
    c.in_ok-read_const.ensures.reads (next _ c.in_ok-authentic.ensures.reads (next _ c.in_ok-unchecked.ensures.reads
    (next _ c.in_ok-code.ensures (exit _ c.from_residual-in_err-questions.ensures.1
    c.in_err-questions.ensures.reads)))))))))))

pub returns-in_err-answers : goal.returns-in_err-answers
returns-in_err-answers g c = next _ c.in_ok-id.ensures.reads (next _ c.in_ok-response.ensures.reads (next _
    c.in_ok-opcode.ensures.reads (next _ c.in_ok-authoritative.ensures.reads (next _ c.in_ok-truncated.ensures.reads
    (next _ c.in_ok-recursion.ensures.reads (next _ c.in_ok-available.ensures.reads (next_const _ _
    c.in_ok-read_const.ensures.reads (next _ c.in_ok-authentic.ensures.reads (next _ c.in_ok-unchecked.ensures.reads
    (next _ c.in_ok-code.ensures (next _ c.in_ok-questions.ensures.reads (exit _
    c.from_residual-in_err-answers.ensures.1 c.in_err-answers.ensures.reads))))))))))))

pub returns-in_err-authorities : goal.returns-in_err-authorities
returns-in_err-authorities g c = next _ c.in_ok-id.ensures.reads (next _ c.in_ok-response.ensures.reads (next _
    c.in_ok-opcode.ensures.reads (next _ c.in_ok-authoritative.ensures.reads (next _ c.in_ok-truncated.ensures.reads
    (next _ c.in_ok-recursion.ensures.reads (next _ c.in_ok-available.ensures.reads (next_const _ _
    c.in_ok-read_const.ensures.reads (next _ c.in_ok-authentic.ensures.reads (next _ c.in_ok-unchecked.ensures.reads
    (next _ c.in_ok-code.ensures (next _ c.in_ok-questions.ensures.reads (next _ c.in_ok-answers.ensures.reads (exit _
    c.from_residual-in_err-authorities.ensures.1 c.in_err-authorities.ensures.reads)))))))))))))

pub returns-in_err-additional : goal.returns-in_err-additional
returns-in_err-additional g c = next _ c.in_ok-id.ensures.reads (next _ c.in_ok-response.ensures.reads (next _
    c.in_ok-opcode.ensures.reads (next _ c.in_ok-authoritative.ensures.reads (next _ c.in_ok-truncated.ensures.reads
    (next _ c.in_ok-recursion.ensures.reads (next _ c.in_ok-available.ensures.reads (next_const _ _
    c.in_ok-read_const.ensures.reads (next _ c.in_ok-authentic.ensures.reads (next _ c.in_ok-unchecked.ensures.reads
    (next _ c.in_ok-code.ensures (next _ c.in_ok-questions.ensures.reads (next _ c.in_ok-answers.ensures.reads (next _
    c.in_ok-authorities.ensures.reads (exit _ c.from_residual-in_err-additional.ensures.1
    c.in_err-additional.ensures.reads))))))))))))))

pub returns : goal.returns
returns g c = next _ c.in_ok-id.ensures.reads (next _ c.in_ok-response.ensures.reads (next _
    c.in_ok-opcode.ensures.reads (next _ c.in_ok-authoritative.ensures.reads (next _ c.in_ok-truncated.ensures.reads
    (next _ c.in_ok-recursion.ensures.reads (next _ c.in_ok-available.ensures.reads (next_const _ _
    c.in_ok-read_const.ensures.reads (next _ c.in_ok-authentic.ensures.reads (next _ c.in_ok-unchecked.ensures.reads
    (next _ c.in_ok-code.ensures (next _ c.in_ok-questions.ensures.reads (next _ c.in_ok-answers.ensures.reads (next _
    c.in_ok-authorities.ensures.reads (next _ c.in_ok-additional.ensures.reads (own_end _ _)))))))))))))))
