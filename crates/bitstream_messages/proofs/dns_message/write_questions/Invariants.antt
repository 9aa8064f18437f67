-- Made by `./format` from formats/dns_message.fields: edit that file and make this one anew.
use Rattle.bitstream_messages.specs.DnsQuestion.{dns_question_writes}
use Rattle.bitstream_io.specs.Loop.{ItemsWritten}
use Rattle.bitstream_messages.proofs.dns_message.write_questions.Given as goal

-- the items so far were written
abbrev pub invariant-loop-item : goal.invariant-loop-item
invariant-loop-item g l =
    let K = g.W.BitWrite.sink in
    ItemsWritten K (dns_question_writes K.order) l.items l.item-index l.initial.writer l.writer
