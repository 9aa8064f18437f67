-- Items that are read one after another.
use Rattle.std.proofs.Math.Nat.{zero-add, suc-add}
use Rattle.std.proofs.Common.{◌-◌, ◌≡◌, ℕ, zero, suc, ◌+◌, ◌<◌, List, [], ◌∷◌, ◌++◌, length, take, Ok, Err, refl, sym, ap, ◌∙◌, subst, arith, set, add-one}
use Rattle.std.proofs.Math.Seq.{take-suc-set, take-length}
use Rattle.bitstream_count.specs.declared.error.Error.{Error}
use Rattle.bitstream_count.specs.Codec.{Decoder, and_then, pure}
use Rattle.bitstream_stream.specs.Reading.Reads.{BitSource, Reads}
use Rattle.bitstream_stream.proofs.Reading.ReadsLemmas.{Reads-and_then-ok, Reads-and_then-err, Reads-pure}
use Rattle.bitstream_value.specs.Array.{items_decoder}

items-none : {A : Type 0} (e : Decoder A) → items_decoder e 0 ≡ pure []
unfolding items_decoder
items-none e = refl

pub items-suc : {A : Type 0} (e : Decoder A) (n : ℕ) → items_decoder e (suc n)
    ≡ and_then (items_decoder e n) (λ xs. and_then e (λ x. pure (xs ++ x ∷ [])))
unfolding items_decoder
items-suc e n = refl

module _ {R : Type 0} {K : BitSource R} where
  pub items-start : {A : Type 0} (e : Decoder A) (s : R) → Reads K (items_decoder e 0) s (Ok []) s
  items-start e s = rw (items-none e) (Reads-pure [] s)

  items-more : {A : Type 0} (e : Decoder A) (n : ℕ) (xs : List A) (x : A) {s t z : R}
      → Reads K (items_decoder e n) s (Ok xs) t → Reads K e t (Ok x) z
      → Reads K (items_decoder e (suc n)) s (Ok (xs ++ x ∷ [])) z
  items-more e n xs x h k = rw (items-suc e n) (Reads-and_then-ok _ _ h (Reads-and_then-ok _ _ k (Reads-pure _ _)))

  -- one item more, in its place among the others
  pub items-put : {A : Type 0} (e : Decoder A) (size n : ℕ) (xs : List A) (x : A) {s t z : R} → n < size → length xs
      ≡ size
      → Reads K (items_decoder e n) s (Ok (take n xs)) t → Reads K e t (Ok x) z
      → Reads K (items_decoder e (n + 1)) s (Ok (take (n + 1) (set xs n x))) z
  items-put e size n xs x room len h k =
      let le : n < length xs = omega arith in
      rw (add-one n, take-suc-set xs n x le) (items-more e n (take n xs) x h k)

  -- items that stop before the last stop them all
  items-later : {A : Type 0} (e : Decoder A) (n k : ℕ) {x : Error} {s z : R} → Reads K (items_decoder e n) s (Err x) z
      → Reads K (items_decoder e (k + n)) s (Err x) z
  items-later e n zero h = rw (zero-add n) h
  items-later e n (suc k) h = rw (suc-add k n, items-suc e (k + n)) (Reads-and_then-err _ _ (items-later e n k h))

  -- an item that fails, or meets a fault
  pub items-stop : {A : Type 0} (e : Decoder A) (n all : ℕ) (xs : List A) {x : Error} {s t z : R} → n < all
      → Reads K (items_decoder e n) s (Ok xs) t → Reads K e t (Err x) z → Reads K (items_decoder e all) s (Err x) z
  items-stop e n all xs {x = x} {s = s} {z = z} more h k =
      let here : Reads K (items_decoder e (suc n)) s (Err x) z =
      rw (items-suc e n) (Reads-and_then-ok _ _ h (Reads-and_then-err _ _ k)) in
      let place : (all - suc n) + suc n ≡ all = omega arith in
      subst (λ m. Reads K (items_decoder e m) s (Err x) z) place (items-later e (suc n) (all - suc n) here)

  -- all of them
  pub items-all : {A : Type 0} (e : Decoder A) (size n : ℕ) (xs : List A) {s t : R} → n ≡ size → length xs ≡ size
      → Reads K (items_decoder e n) s (Ok (take n xs)) t → Reads K (items_decoder e size) s (Ok xs) t
  items-all e size n xs {s = s} {t = t} all len h =
      let same : n ≡ length xs = all ∙ sym len in
      let whole : take n xs ≡ xs = ap (λ m. take m xs) same ∙ take-length xs in
      subst (λ m. Reads K (items_decoder e m) s (Ok xs) t) all (subst (λ l. Reads K (items_decoder e n) s (Ok l) t) whole h)
