use Rattle.std.specs.Coded.{Coded-set}
use Rattle.std.proofs.Common.{◌≡◌, ◌+◌, ◌*◌, ◌<◌, ◌≤◌, Some, arith, length, refl, subst}
use Rattle.std.specs.Prelude.{slice_get}
use Rattle.std.proofs.Math.Logic.{∥∥₁_elim}
use Rattle.std.proofs.lemmas.Option.{slice_get_read}
use Rattle.bitstream_number.specs.Word.{word}
use Rattle.bitstream_io.specs.SymbolTable.{table_entries, table_tree}
use Rattle.bitstream_io.specs.Windows.{Finds}
use Rattle.bitstream_io.proofs.WindowLemmas.{IsPath-prop, found-none, found-path, half-small, window-at}
use Rattle.bitstream_io.proofs.symbols.SymbolTable.find.Goals as goal

pub returns-then-found-le10-clause-some : goal.returns-then-found-le10-clause-some
returns-then-found-le10-clause-some g c =
    let o = g.E.Endianness.order in
    let table = c.args.self.now in
    let f = c.index-found.result.now in
    let v = c.args.window in
    let half = c.first-half.result in
    let is = c.first-half.ensures.value in
    let small : half ≤ 1 = rw is (half-small o) in
    let size = table.size in
    let below : 1024 * half + v < length (table_entries table) = omega (arith, small, size, c.requires) in
    let here : slice_get (table_entries table) (1024 * half + v) ≡ Some f =
    slice_get_read (table_entries table) (length (table_entries table)) (1024 * half + v) f refl below
    c.index-found.ensures in (
      c.if-found-le10.true,
      ∥∥₁_elim table.right (IsPath-prop (Coded-set g.row.S.coded) (table_tree table) _ f.symbol) (λ all.
          found-path (table_tree table) (word o 10 v) f
          (subst (λ w. Finds (table_tree table) w f) (window-at o v half (1024 * half + v) c.requires is refl)
          (all (1024 * half + v) f here)) c.if-found-le10.true),
    )

pub returns-else-found-le10-clause-none : goal.returns-else-found-le10-clause-none
returns-else-found-le10-clause-none g c = λ none n symbol few path.
    let o = g.E.Endianness.order in
    let table = c.args.self.now in
    let f = c.index-found.result.now in
    let v = c.args.window in
    let half = c.first-half.result in
    let is = c.first-half.ensures.value in
    let small : half ≤ 1 = rw is (half-small o) in
    let size = table.size in
    let below : 1024 * half + v < length (table_entries table) = omega (arith, small, size, c.requires) in
    let here : slice_get (table_entries table) (1024 * half + v) ≡ Some f =
    slice_get_read (table_entries table) (length (table_entries table)) (1024 * half + v) f refl below
    c.index-found.ensures in
    ∥∥₁_elim table.right (λ p q. absurd p) (λ all.
    found-none (table_tree table) (word o 10 v) f
    (subst (λ w. Finds (table_tree table) w f) (window-at o v half (1024 * half + v) c.requires is refl)
    (all (1024 * half + v) f here)) c.if-found-le10.false n symbol path)
