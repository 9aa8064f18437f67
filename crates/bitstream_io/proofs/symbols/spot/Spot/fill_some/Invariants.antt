use Rattle.std.proofs.Common.{◌≡◌, ◌≤◌, ◌+◌, ◌-◌, ◌*◌, ◌/◌, List, Ok, length, take}
use Rattle.bitstream_order.specs.Refusal.{Refusal}
use Rattle.bitstream_stream.specs.Reading.Reads.{Reads}
use Rattle.bitstream_value.specs.Array.{items_decoder}
use Rattle.bitstream_value.specs.Tree.{path_decoder}
use Rattle.bitstream_io.specs.Places.{Place, place_source, spot_place}
use Rattle.bitstream_io.specs.SymbolTable.{table_tree}
use Rattle.bitstream_io.specs.Windows.{IsEight}
use Rattle.bitstream_io.proofs.symbols.spot.Spot.fill_some.Given as goal

-- what was read from some place up to the first index was read on up to this one
abbrev pub invariant-loop-at : goal.invariant-loop-at
invariant-loop-at g l =
    record {
      after : l.from ≤ l.at;
      within : l.at ≤ length l.symbols;
      size : length l.symbols ≡ length l.initial.symbols;
      bytes : l.self.bytes.now ≡ l.initial.self.bytes.now;
      eight : IsEight g.E.Endianness.order l.self.bytes.now (l.initial.self.place / 8) l.value;
      place : l.self.place ≡ 8 * (l.initial.self.place / 8) + l.bit;
      reads : (start : Place) (refusals : List Refusal)
          → Reads (place_source g.E.Endianness.order) (items_decoder (path_decoder (table_tree l.table)) l.from)
          start (Ok (take l.from l.initial.symbols)) (spot_place l.initial.self refusals)
          → Reads (place_source g.E.Endianness.order) (items_decoder (path_decoder (table_tree l.table)) l.at)
          start (Ok (take l.at l.symbols)) (spot_place l.self refusals);
    }

abbrev pub decreases-loop-at : goal.decreases-loop-at
decreases-loop-at g l = length l.initial.symbols - l.at
