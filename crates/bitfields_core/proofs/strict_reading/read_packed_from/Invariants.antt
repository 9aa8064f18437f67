use Rattle.bitfields_core.specs.Repacking.{exact_read, with_alignment}
use Rattle.bitfields_core.proofs.UnpackingLemmas.{Remaining}
use Rattle.bitfields_core.proofs.strict_reading.read_packed_from.Given as goal

abbrev pub invariant-loop-index : goal.invariant-loop-index
invariant-loop-index g l = Remaining exact_read g.R.BitRead.source (with_alignment l.fields) l.index l.initial.reader
    l.values.items l.reader
