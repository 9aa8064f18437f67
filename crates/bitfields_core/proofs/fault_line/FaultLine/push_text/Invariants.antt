use Rattle.std.proofs.Common.{◌≡◌, ◌++◌, take}
use Rattle.bitfields_core.proofs.fault_line.FaultLine.push_text.Given as goal

abbrev pub invariant-loop-byte : goal.invariant-loop-byte
invariant-loop-byte l = l.self ≡ l.initial.self ++ take l.byte-index l.byte-items
