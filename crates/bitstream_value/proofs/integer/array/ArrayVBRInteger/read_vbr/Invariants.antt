use Rattle.std.proofs.Common.{◌≡◌, Ok, take, length}
use Rattle.bitstream_stream.specs.Reading.Reads.{Reads}
use Rattle.bitstream_value.specs.Array.{items_decoder}
use Rattle.bitstream_value.proofs.integer.array.ArrayVBRInteger.read_vbr.Given as goal

-- the items before place i were read
abbrev pub invariant-loop-i : goal.invariant-loop-i
invariant-loop-i g l =
    Reads g.R.BitRead.source (items_decoder (g.I.VBRInteger.reads_vbr g.R.BitRead.source.order g.F.Width.BITS) l.i)
    l.initial.reader (Ok (take l.i l.items)) l.reader
    × (length l.items ≡ g.row.SIZE)
