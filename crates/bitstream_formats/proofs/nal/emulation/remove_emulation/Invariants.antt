use Rattle.std.proofs.Common.{◌≡◌, ◌++◌, drop}
use Rattle.bitstream_formats.specs.Emulation.{without_emulation}
use Rattle.bitstream_formats.proofs.nal.emulation.remove_emulation.Given as goal

abbrev pub invariant-loop-byte : goal.invariant-loop-byte
invariant-loop-byte l =
    without_emulation 0 l.unit ≡ l.payload.items ++ without_emulation l.zeros (drop l.byte-index l.unit)
