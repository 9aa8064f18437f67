use Rattle.std.proofs.Common.{string_bytes}
use Rattle.bitfields_core.proofs.UnpackingLemmas.{Unpacking}
use Rattle.bitfields_core.proofs.unpacking.unpack_from.Given as goal

abbrev pub invariant-loop-index : goal.invariant-loop-index
invariant-loop-index g l = Unpacking g.R.BitRead.source l.fields l.index l.initial.reader (string_bytes l.lines)
    l.reader
