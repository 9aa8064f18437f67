use Rattle.std.proofs.Common.{rules, ◌≡◌, ◌<◌, List, ℕ, length, get_or, map, true, false, arith, sym, ◌∙◌, ap, refl, [], ◌≤◌}
use Rattle.std.specs.Borrow.{Bor}
use Rattle.std.specs.List.{list_all}
use Rattle.std.proofs.lemmas.List.{get_or-map, length-map, take_all}
use Rattle.std.proofs.lemmas.List.Folds.{list_all_at, list_all_more}
use Rattle.bitfields_core.specs.Decimal.{is_decimal}
use Rattle.bitfields_core.proofs.decimal.are_decimals.Goals as goal

pub returns-then-not-is_decimal : goal.returns-then-not-is_decimal
returns-then-not-is_decimal c =
    let i = c.loop-text.text-index in
    let here : i < length c.args.texts.now = omega arith in
    let parts = map (λ (x : Bor (List ℕ)). x.now) c.args.texts.now in
    let no : c.is_decimal.result ≡ false = search rules in
    let is : is_decimal (get_or parts i []) ≡ false =
    ap is_decimal (get_or-map (λ (x : Bor (List ℕ)). x.now) c.args.texts.now i _ [] here) ∙ sym c.is_decimal.ensures
    ∙ no
    in
    sym (list_all_at is_decimal parts i [] (rw length-map here) is)

pub loop-text-preserved : goal.loop-text-preserved
loop-text-preserved c =
    let i = c.loop-text.text-index in
    let here : i < length c.args.texts.now = omega arith in
    let parts = map (λ (x : Bor (List ℕ)). x.now) c.args.texts.now in
    let yes : c.is_decimal.result ≡ true = search rules in
    let is : is_decimal (get_or parts i []) ≡ true =
    ap is_decimal (get_or-map (λ (x : Bor (List ℕ)). x.now) c.args.texts.now i _ [] here) ∙ sym c.is_decimal.ensures
    ∙ yes in
    list_all_more is_decimal parts i [] (rw length-map here) ∙ rw (c.loop-text.invariant, is) refl

pub returns : goal.returns
returns c =
    let i = c.loop-text.text-index in
    let parts = map (λ (x : Bor (List ℕ)). x.now) c.args.texts.now in
    let end : length parts ≤ i = rw length-map (omega arith) in
    sym (ap (list_all is_decimal) (sym (take_all i parts end)) ∙ c.loop-text.invariant)
