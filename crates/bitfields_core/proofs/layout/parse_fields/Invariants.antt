use Rattle.std.proofs.Common.{◌≡◌, map, ◌+◌, drop, length, All}
use Rattle.bitfields_core.specs.Layout.{fields_of, IsField}
use Rattle.bitfields_core.proofs.LayoutLemmas.{after}
use Rattle.bitfields_core.proofs.layout.parse_fields.Given as goal

abbrev pub invariant-loop-index : goal.invariant-loop-index
invariant-loop-index l = record {
  spelt : fields_of 1 (map (λ x. x.now) l.parts) ≡ after l.fields.items
      (fields_of (l.index + 1) (drop l.index (map (λ x. x.now) l.parts)));
  count : length l.fields.items ≡ l.index;
  in_range : All IsField l.fields.items;
}
