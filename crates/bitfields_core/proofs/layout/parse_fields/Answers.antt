use Rattle.std.proofs.Common.{rules, ◌≡◌, ℕ, ◌<◌, List, [], ◌∷◌, ◌++◌, length, get_or, map, None, Some, arith, inr, sym, ◌∙◌, length-append}
use Rattle.std.proofs.lemmas.List.{get_or-map, length-map}
use Rattle.std.specs.Borrow.{Bor}
use Rattle.bitfields_core.specs.Layout.{field_of, IsField}
use Rattle.bitfields_core.proofs.LayoutLemmas.{one_field, bad_field, field_of-IsField, All-one}
use Rattle.std.proofs.lemmas.List.Elements.{All-append}
use Rattle.bitfields_core.proofs.layout.parse_fields.Goals as goal

pub returns-in_default : goal.returns-in_default
returns-in_default c =
    let i = c.loop-index.index in
    let h : i < length c.args.parts.now = omega arith in
    let here = get_or-map (λ (x : Bor (List ℕ)). x.now) c.args.parts.now i _ [] h ∙ sym c.as_bytes.ensures.value in
    let segment : field_of (get_or (map (λ (x : Bor (List ℕ)). x.now) c.args.parts.now) i []) ≡ None = rw here (cc) in
    let bad = bad_field (map (λ (x : Bor (List ℕ)). x.now) c.args.parts.now) i c.loop-index.fields.items
    (rw length-map h) c.loop-index.invariant.spelt segment in
    inr (cc)

pub loop-index-preserved : goal.loop-index-preserved
loop-index-preserved c =
    let i = c.loop-index.index in
    let h : i < length c.args.parts.now = omega arith in
    let here = get_or-map (λ (x : Bor (List ℕ)). x.now) c.args.parts.now i _ [] h ∙ sym c.as_bytes.ensures.value in
    let segment : field_of (get_or (map (λ (x : Bor (List ℕ)). x.now) c.args.parts.now) i []) ≡ Some c.in-Some.field =
    rw here (cc) in
    let more = one_field (map (λ (x : Bor (List ℕ)). x.now) c.args.parts.now) i c.loop-index.fields.items
    c.in-Some.field (rw length-map h) c.loop-index.invariant.spelt segment in
    let pushed : c.push.new.self.items ≡ c.loop-index.fields.items ++ c.in-Some.field ∷ [] = search rules in
    record {
      spelt = rw pushed more;
      count = rw pushed (rw length-append (omega (arith, c.loop-index.invariant.count)));
      in_range = rw pushed (All-append IsField _ _ c.loop-index.invariant.in_range
          (All-one IsField c.in-Some.field (field_of-IsField
          (get_or (map (λ (x : Bor (List ℕ)). x.now) c.args.parts.now) i []) c.in-Some.field segment)));
    }
