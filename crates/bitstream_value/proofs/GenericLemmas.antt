-- Parts of any type: whether they grow is not known.
use Rattle.std.proofs.Common.{◌≡◌, Bool, true, false, Result, Ok, Err, refl, Continue}
use Rattle.bitstream_count.specs.declared.error.Error.{Error}
use Rattle.bitstream_count.specs.Codec.{Decoder, and_then, pure}
use Rattle.bitstream_stream.specs.Reading.Reads.{BitSource}
use Rattle.bitstream_value.specs.Own.{part_then}
use Rattle.bitstream_value.proofs.OwnSteps.{then_part, part_stops, own_end}
use Rattle.bitstream_value.specs.Grows.{OwnReads}
use Rattle.bitstream_value.proofs.GrowsLemmas.{if_grown, part_go, part_stop, grown_end}

-- one that says no is one that may
pub weaker : {R A E : Type 0} (K : BitSource R) (becomes : Error → E → Type 0) (e : Decoder (Result A E))
    (r : Result A E) (s t : R) (g h : Bool) → (g ≡ true → h ≡ true) → OwnReads g K becomes e s r t
    → OwnReads h K becomes e s r t
weaker K becomes e r s t true true so k = k
weaker K becomes e r s t false true so k = if_grown false k
weaker K becomes e r s t false false so k = k
weaker K becomes e r s t true false so k = let p = so refl in cc

module _ {R A B E : Type 0} (K : BitSource R) (becomes : Error → E → Type 0) (e : Decoder (Result A E)) (f : A
    → Decoder (Result B E)) (r : Result B E) (s t : R) where
  pub part_go_if : (g : Bool) (z : R) (a : A) → OwnReads g K becomes e s (Ok a) t → OwnReads g K becomes (f a) t r z
      → OwnReads g K becomes (and_then e (part_then f)) s r z
  part_go_if true z a h k = part_go f h k
  part_go_if false z a h k = then_part f {flow = Continue a} h refl refl k

  pub part_stop_if : (g : Bool) (x : E) → OwnReads g K becomes e s (Err x) t → r ≡ Err x
      → OwnReads g K becomes (and_then e (part_then f)) s r t
  part_stop_if true x h is = part_stop f h is
  part_stop_if false x h is = part_stops f x h.plain is h.called h.answer

pub end_if : {R A E : Type 0} (K : BitSource R) (becomes : Error → E → Type 0) (g : Bool) (r : Result A E) (s : R)
    → OwnReads g K becomes (pure r) s r s
end_if K becomes true r s = grown_end r s
end_if K becomes false r s = own_end r s
