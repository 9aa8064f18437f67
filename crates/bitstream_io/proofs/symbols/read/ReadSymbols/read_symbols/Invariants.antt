use Rattle.std.proofs.Common.{◌≡◌, Ok, length, take}
use Rattle.bitstream_stream.specs.Reading.Reads.{Reads}
use Rattle.bitstream_value.specs.Array.{items_decoder}
use Rattle.bitstream_value.specs.Tree.{path_decoder}
use Rattle.bitstream_io.specs.SymbolTable.{table_tree}
use Rattle.bitstream_io.proofs.symbols.read.ReadSymbols.read_symbols.Given as goal

-- the symbols before this index were read
abbrev pub invariant-loop-at : goal.invariant-loop-at
invariant-loop-at g l =
    record {
      size : length l.symbols ≡ length l.initial.symbols;
      reads : Reads g.Self.BitRead.source (items_decoder (path_decoder (table_tree l.table)) l.at) l.initial.self
          (Ok (take l.at l.symbols)) l.self;
    }
