use Rattle.std.proofs.Common.{◌≡◌, ◌≤◌, ◌-◌, Ok, length, take}
use Rattle.bitstream_stream.specs.Reading.MemorySource.{memory_source}
use Rattle.bitstream_stream.specs.Reading.Reads.{Reads}
use Rattle.bitstream_value.specs.Array.{items_decoder}
use Rattle.bitstream_value.specs.Tree.{path_decoder}
use Rattle.bitstream_io.specs.SymbolTable.{table_tree}
use Rattle.bitstream_io.proofs.symbols.read.SliceReaderReadSymbols.read_symbols.Given as goal

-- the symbols before this index were read
abbrev pub invariant-loop-at : goal.invariant-loop-at
invariant-loop-at g l =
    record {
      within : l.at ≤ length l.symbols;
      size : length l.symbols ≡ length l.fn.symbols;
      reads : Reads (memory_source g.E.Endianness.order) (items_decoder (path_decoder (table_tree l.table)) l.at)
          l.fn.self (Ok (take l.at l.symbols)) l.self;
    }

abbrev pub decreases-loop-at : goal.decreases-loop-at
decreases-loop-at g l = length l.fn.symbols - l.at
