use Rattle.std.proofs.Common.{◌≡◌, ◌+◌, ℕ, List, Ok}
use Rattle.bitstream_stream.specs.WholeBytes.ByteReads.{ByteReads, given_bytes}
use Rattle.bitstream_stream.specs.WholeBytes.ByteReader.{byte_reader_source}
use Rattle.bitstream_stream.proofs.bytes.byte_reader.ByteReaderByteRead.skip.Given as goal

-- k bytes so far, and the rest to come
abbrev pub invariant-loop-left : goal.invariant-loop-left
invariant-loop-left g l =
    let K = byte_reader_source {E = g.row.E.Denot} g.R.Source.stream
    g.E.Endianness.order in
    (k : ℕ) × (k + l.left ≡ l.fn.bytes) × ((x : List ℕ) × ByteReads K (given_bytes k) l.fn.self (Ok x) l.self)

abbrev pub decreases-loop-left : goal.decreases-loop-left
decreases-loop-left g l = l.left
