-- Made by `./format` from formats/extensions.fields: edit that file and make this one anew.
use Rattle.bitstream_messages.specs.Extensions.{items_ended, extension_here}
use Rattle.bitstream_format.proofs.FilledLemmas.{ItemsSoFar}
use Rattle.bitstream_messages.specs.declared.extensions.ExtensionsError.TheVariants.{Reader, Overlong}
use Rattle.bitstream_io.specs.Callers.{High, bits, memory_source}
use Rattle.bitstream_messages.proofs.extensions.items_in.Given as goal

-- the items so far were read
abbrev pub invariant-loop : goal.invariant-loop
invariant-loop l =
    ItemsSoFar (memory_source High) (extension_here High) Overlong (λ error. Reader error) items_ended (bits High
    l.bytes) l.size l.counter l.found.items l.inside
