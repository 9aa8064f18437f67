use Rattle.std.proofs.Common.{refl}
use Rattle.bitstream_io.proofs.PlaceLemmas.{from_same}
use Rattle.bitstream_io.proofs.symbols.read.SliceReaderReadSymbols.read_symbol.Goals as goal

pub returns-in-None : goal.returns-in-None
returns-in-None g c = record {
  reads = from_same _ (c.in-None.ensures.none refl) (rw c.tree.ensures at c.from_bits.ensures.reads);
}
