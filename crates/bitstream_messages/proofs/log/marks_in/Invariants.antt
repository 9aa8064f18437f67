-- Made by `./format` from formats/log.fields: edit that file and make this one anew.
use Rattle.bitstream_messages.specs.Log.{marks_ended, mark_here}
use Rattle.bitstream_format.proofs.FilledLemmas.{ItemsSoFar}
use Rattle.bitstream_messages.specs.declared.log.LogError.TheVariants.{Reader, OddMarks}
use Rattle.bitstream_io.specs.Callers.{High, bits, memory_source}
use Rattle.bitstream_messages.proofs.log.marks_in.Given as goal

-- the items so far were read
abbrev pub invariant-loop : goal.invariant-loop
invariant-loop l =
    ItemsSoFar (memory_source High) (mark_here High) OddMarks (λ error. Reader error) marks_ended (bits High l.bytes)
    l.size l.counter l.found.items l.inside
