use Rattle.std.proofs.Common.{rules, ◌≡◌, ◌++◌, ◌∷◌, [], ◌<◌, List, ℕ, length, get_or, map, true, Ok, Err, arith, sym, ◌∙◌, ap}
use Rattle.std.proofs.lemmas.List.{get_or-map, length-map}
use Rattle.std.specs.Borrow.{Bor}
use Rattle.std.specs.List.{list_all}
use Rattle.bitfields_core.specs.Decimal.{is_decimal, decimal_below, split_spaces, bytes_of_parts}
use Rattle.bitfields_core.proofs.BytesLemmas.{IsRead-bad, IsRead-more}
use Rattle.bitfields_core.proofs.decimal.spaced_bytes.Goals as goal

pub returns-in-Err : goal.returns-in-Err
returns-in-Err c =
    let i = c.loop-part.part-index in
    let items = c.deref-part-items.result.now in
    let parts = map (λ (x : Bor (List ℕ)). x.now) items in
    let here : i < length items = omega arith in
    let h : i < length parts = rw length-map here in
    let is : decimal_below 256 (get_or parts i []) ≡ Err c.in-Err.reason =
    ap (decimal_below 256) (get_or-map (λ (x : Bor (List ℕ)). x.now) items i _ [] here) ∙ sym c.in-Err.ensures in
    let size : length parts ≡ c.args.count = rw length-map (omega (arith, c.deref-part-items.ensures.len)) in
    let yes : c.are_decimals.result ≡ true = search rules in
    let same : items ≡ c.deref.result.now = c.deref-part-items.ensures.value ∙ sym c.deref.ensures.value in
    let all : list_all is_decimal parts ≡ true =
    ap (λ (xs : List (Bor (List ℕ))). list_all is_decimal (map (λ x. x.now) xs)) same ∙ sym c.are_decimals.ensures ∙ yes
    in
    let cut : parts ≡ split_spaces c.args.text.now =
    ap (map (λ (x : Bor (List ℕ)). x.now)) c.deref-part-items.ensures.value ∙ c.in_ok-parts.ensures in
    sym (ap (bytes_of_parts c.args.count) (sym cut) ∙ IsRead-bad c.args.count parts i [] c.in-Err.reason size h all is)

pub loop-part-preserved : goal.loop-part-preserved
loop-part-preserved c =
    let i = c.loop-part.part-index in
    let items = c.deref-part-items.result.now in
    let parts = map (λ (x : Bor (List ℕ)). x.now) items in
    let here : i < length items = omega arith in
    let h : i < length parts = rw length-map here in
    let pushed : c.push.new.self.items ≡ c.loop-part.bytes.items ++ c.in-Ok.value ∷ [] = search rules in
    let is : decimal_below 256 (get_or parts i []) ≡ Ok c.in-Ok.value =
    ap (decimal_below 256) (get_or-map (λ (x : Bor (List ℕ)). x.now) items i _ [] here) ∙ sym c.in-Ok.ensures in
    rw pushed (IsRead-more parts i [] c.loop-part.bytes.items c.in-Ok.value h c.loop-part.invariant is)
