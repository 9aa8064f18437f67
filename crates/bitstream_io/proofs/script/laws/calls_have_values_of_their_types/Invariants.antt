use Rattle.std.proofs.Common.{take}
use Rattle.std.specs.List.{All}
use Rattle.bitstream_io.specs.ReadBack.{IsCall}
use Rattle.bitstream_io.proofs.script.laws.calls_have_values_of_their_types.Given as goal

abbrev pub invariant-loop-call : goal.invariant-loop-call
invariant-loop-call l = All IsCall (take l.call-index l.calls)
