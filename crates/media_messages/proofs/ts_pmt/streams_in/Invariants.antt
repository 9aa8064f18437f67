-- Made by `./format` from formats/ts_pmt.fields: edit that file and make this one anew.
use Rattle.media_messages.specs.TsPmt.{streams_ended, ts_stream_here}
use Rattle.bitstream_format.proofs.FilledLemmas.{ItemsSoFar}
use Rattle.media_messages.specs.declared.ts_pmt.TsPmtError.TheVariants.{Reader, Overlong}
use Rattle.bitstream_io.specs.Callers.{High, bits, memory_source}
use Rattle.media_messages.proofs.ts_pmt.streams_in.Given as goal

-- the items so far were read
abbrev pub invariant-loop : goal.invariant-loop
invariant-loop l =
    ItemsSoFar (memory_source High) (ts_stream_here High) Overlong (λ error. Reader error) streams_ended (bits High
    l.bytes) l.size l.counter l.found.items l.inside
