use Rattle.std.proofs.Common.{inl, inr}
use Rattle.bitstream_io.proofs.ScriptLemmas.{run_anywhere, run_at_same_place}
use Rattle.bitstream_io.proofs.script.laws.played_calls_are_direct_calls.Goals as goal

pub returns : goal.returns
returns c o calls len h = elim h [
  | inl nowhere ↦ run_anywhere o calls len 0 nowhere
  | inr aligned ↦
      run_at_same_place o calls len 0 aligned
]
