-- Made by `./format` from formats/ts_pat.fields: edit that file and make this one anew.
use Rattle.media_messages.specs.TsPat.{programs_ended, ts_program_here}
use Rattle.bitstream_format.proofs.FilledLemmas.{ItemsSoFar}
use Rattle.media_messages.specs.declared.ts_pat.TsPatError.TheVariants.{Reader, Overlong}
use Rattle.bitstream_io.specs.Callers.{High, bits, memory_source}
use Rattle.media_messages.proofs.ts_pat.programs_in.Given as goal

-- the items so far were read
abbrev pub invariant-loop : goal.invariant-loop
invariant-loop l =
    ItemsSoFar (memory_source High) (ts_program_here High) Overlong (λ error. Reader error) programs_ended (bits High
    l.bytes) l.size l.counter l.found.items l.inside
