use Rattle.std.proofs.Common.{◌/◌, ◌%◌, arith}
use Rattle.bitstream_io.specs.SymbolTable.{table_tree}
use Rattle.bitstream_io.proofs.PlaceLemmas.{found_reads, seen_in}
use Rattle.bitstream_io.proofs.symbols.spot.Spot.next.Goals as goal

pub find-requires : goal.find-requires
find-requires g c =
    let p = c.args.self.now.place in
    let window = seen_in g.E.Endianness.order c.args.self.now.bytes.now (p / 8) (p % 8) p c.in_ok-value.value
    c.middle-window.result (omega arith) (omega arith) c.in_ok-value.ensures c.middle-window.ensures in
    window.below

pub returns-clause-some : goal.returns-clause-some
returns-clause-some g c = λ refusals.
    let p = c.args.self.now.place in
    let window = seen_in g.E.Endianness.order c.args.self.now.bytes.now (p / 8) (p % 8) p c.in_ok-value.value
    c.middle-window.result (omega arith) (omega arith) c.in_ok-value.ensures c.middle-window.ensures in
    found_reads g.E.Endianness.order (table_tree c.args.table.now) c.args.self.now.bytes.now p c.middle-window.result
    c.in_ok-symbol.bits c.in_ok-symbol.symbol refusals c.args.self.now.within _ c.in_ok-symbol.ensures.some.0 window
    c.in_ok-symbol.ensures.some.1
