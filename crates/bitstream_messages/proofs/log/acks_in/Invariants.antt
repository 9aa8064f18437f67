-- Made by `./format` from formats/log.fields: edit that file and make this one anew.
use Rattle.bitstream_messages.specs.Log.{acks_ended}
use Rattle.bitstream_messages.specs.Ack.{ack_decoder}
use Rattle.bitstream_format.proofs.FilledLemmas.{ItemsSoFar}
use Rattle.bitstream_messages.specs.declared.log.LogError.TheVariants.{Reader, OddAcks}
use Rattle.bitstream_io.specs.Callers.{High, bits, memory_source, plain_reads}
use Rattle.bitstream_messages.proofs.log.acks_in.Given as goal

-- the items so far were read
abbrev pub invariant-loop : goal.invariant-loop
invariant-loop l =
    ItemsSoFar (memory_source High) (plain_reads (ack_decoder High)) OddAcks (λ error. Reader error) acks_ended (bits
    High l.bytes) l.size l.counter l.found.items l.inside
