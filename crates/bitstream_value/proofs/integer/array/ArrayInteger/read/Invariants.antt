use Rattle.std.proofs.Common.{◌≡◌, Ok, take, length}
use Rattle.std.specs.List.{AllWithin}
use Rattle.bitstream_stream.specs.Reading.Reads.{Reads}
use Rattle.bitstream_value.specs.Array.{items_decoder}
use Rattle.bitstream_value.proofs.integer.array.ArrayInteger.read.Given as goal

-- the items before place i were read, and fit
abbrev pub invariant-loop-i : goal.invariant-loop-i
invariant-loop-i g l =
    Reads g.R.BitRead.source (items_decoder (g.I.Integer.reads g.R.BitRead.source.order g.B.Width.BITS) l.i)
    l.initial.reader (Ok (take l.i l.items)) l.reader
    × (length l.items ≡ g.row.SIZE)
    × AllWithin (g.I.Integer.Fits g.B.Width.BITS) l.items 0 l.i
