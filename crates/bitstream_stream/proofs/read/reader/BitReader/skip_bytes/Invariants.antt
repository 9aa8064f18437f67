use Rattle.std.proofs.Common.{◌≡◌, ◌+◌, ◌*◌, ℕ, Ok}
use Rattle.bitstream_stream.specs.Reading.Reads.{Reads}
use Rattle.bitstream_stream.specs.Reading.Reader.{reader_source}
use Rattle.bitstream_stream.specs.Reading.ReadTable.{skip_decoder}
use Rattle.bitstream_stream.proofs.read.reader.BitReader.skip_bytes.Given as goal

-- k bytes so far, and the rest to come
abbrev pub invariant-loop-left : goal.invariant-loop-left
invariant-loop-left g l =
    let K = reader_source g.R.Source.stream g.E.Endianness.order in
    (k : ℕ) × (k + l.left ≡ l.bytes) × Reads K (skip_decoder (8 * k)) l.initial.self (Ok tt) l.self

abbrev pub decreases-loop-left : goal.decreases-loop-left
decreases-loop-left g l = l.left
