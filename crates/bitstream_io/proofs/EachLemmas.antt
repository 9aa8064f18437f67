-- Lists and arrays of values that are made of numbers, as the cases of an enum, lists of parts with errors of their own, and
-- such a part that is there or not: what was written of them is read back, how many bits they take, and what a loop makes.
use Rattle.std.proofs.Common.{◌≡◌, ◌∙◌, ℕ, suc, ◌+◌, ◌-◌, ◌*◌, ◌^◌, ◌<◌, Bool, true, List, [], ◌∷◌, ◌++◌, length, take, drop, Option, Some, None, Result, Ok, Err, refl, sym, ap, subst, set, get_or, add-one, arith}
use Rattle.std.specs.Prelude.{nat_le, map, flat_map, is_some}
use Rattle.std.specs.List.{All}
use Rattle.std.specs.Option.{ForSome}
use Rattle.std.specs.Result.{IsErrAnd}
use Rattle.std.proofs.Math.Seq.{split_at, take-length, take-suc-set}
use Rattle.std.proofs.lemmas.List.{map_more, map_push, map-append, length-map}
use Rattle.std.proofs.lemmas.List.Elements.{All-head, All-map, All-tail, All-weaker}
use Rattle.bitstream_number.specs.Word.{Order, number}
use Rattle.bitstream_count.specs.declared.error.Error.{Error}
use Rattle.bitstream_count.specs.Codec.{Decoder, Encoder, and_then, pure}
use Rattle.bitstream_order.specs.Moving.Gather.{result_map}
use Rattle.bitstream_stream.specs.Reading.ReadTable.{unsigned_decoder}
use Rattle.bitstream_stream.specs.Writing.WriteTable.{unsigned}
use Rattle.bitstream_value.specs.Array.{items_decoder, words}
use Rattle.bitstream_stream.specs.Reading.Reads.{BitSource}
use Rattle.bitstream_value.specs.Grows.{GrowingOutcome, GrowsOwn, parts_decoder}
use Rattle.bitstream_value.specs.Own.{OwnAnswer, part_then}
use Rattle.bitstream_value.proofs.BackLemmas.{RoundTrip}
use Rattle.bitstream_value.proofs.GrowsLemmas.{go_grown, grown_is, stop_grown}
use Rattle.bitstream_value.proofs.ReadSteps.{Finds, pure-finds, next-finds}
use Rattle.bitstream_value.proofs.SureLemmas.{items-word, mapped-word, unsigned-word}
use Rattle.bitstream_io.specs.Loop.{all_ok, ok_then}
use Rattle.bitstream_io.specs.Optional.{optional_writes, own_optional}
use Rattle.bitstream_io.specs.ReadBack.{IsReadAs}
use Rattle.std.proofs.lemmas.Bool.{leb-true}
use Rattle.bitstream_io.proofs.CallerLemmas.{made-read, numbers-read, part-back}
use Rattle.bitstream_io.proofs.CallsBack.{mapped-read, parts-read, then_made-read}
use Rattle.bitstream_io.proofs.PackLemmas.{IsWritten, Packs, packs-each, unsigned-written}

-- ---- an optional part with errors of its own

pub own_optional-back : {A E : Type 0} (e : Decoder (Result A E)) (ws : A → List Encoder) (value : Option A)
    → ForSome value (λ a. IsReadAs (ws a) e (Ok a))
    → IsReadAs (optional_writes ws value) (own_optional (is_some value) e) (Ok value)
own_optional-back e ws None part = λ len p more. refl
own_optional-back e ws (Some a) part = then_made-read e (λ v. Some v) (ws a) a (part a refl)

-- ---- a part that asks for memory, whose errors become others: `own_made` says the same of one that asks for none

grown_made-of : {R A E F : Type 0} {K : BitSource R} (there : Error → E → Type 0) (here : Error → F → Type 0)
    {e : Decoder (Result A E)} (makes : Result A E → Result A F) (r : Result A E) {s t : R}
    (plain : Result (Result A E) Error) → GrowingOutcome K e s plain t → OwnAnswer there (λ y. y) plain r
    → ((x : Error) → IsErrAnd r (there x) → IsErrAnd (makes r) (here x))
    → GrowsOwn K here (and_then e (λ answer. pure (makes answer))) s (makes r) t
grown_made-of there here makes r (Ok x) h is errors =
    go_grown (λ answer. pure (makes answer)) h (grown_is (ap makes (sym is)))
grown_made-of there here makes r (Err x) h is errors = stop_grown (λ answer. pure (makes answer)) h (errors x is)

pub grown_made : {R A E F : Type 0} {K : BitSource R} {there : Error → E → Type 0} {here : Error → F → Type 0}
    {e : Decoder (Result A E)} (makes : Result A E → Result A F) (r : Result A E) {s t : R} → GrowsOwn K there e s r t
    → ((x : Error) → IsErrAnd r (there x) → IsErrAnd (makes r) (here x))
    → GrowsOwn K here (and_then e (λ answer. pure (makes answer))) s (makes r) t
grown_made {there = there} {here = here} makes r h errors =
    grown_made-of there here makes r h.plain h.called h.answer errors

-- ---- a list of parts with errors of their own

-- an error of a result, as a view of the values shows it
pub own_map_err : {A V E : Type 0} (view : A → V) {x : E} (r : Result A E) → IsErrAnd r (λ y. y ≡ x)
    → result_map view r ≡ Err x
own_map_err view (Ok a) is = absurd is
own_map_err view (Err y) is = ap Err is

pub each_part-back : {A B E : Type 0} (es : List Encoder) (b : B) (e : Decoder (Result A E))
    (writes : A → List Encoder) (count : ℕ) (xs : List A) (f : Result (List A) E → Decoder B) → length xs ≡ count
    → All (λ x. IsReadAs (writes x) e (Ok x)) xs → RoundTrip (f (Ok xs)) es b
    → RoundTrip (and_then (parts_decoder e count) f) (flat_map writes xs ++ es) b
each_part-back es b e writes count xs f is all behind =
    let ws = flat_map writes xs in
    subst (λ (k : ℕ). RoundTrip (and_then (parts_decoder e k) f) (ws ++ es) b) is
    (part-back (parts_decoder e (length xs)) f ws es (Ok xs) b (parts-read e writes xs all) behind)

-- ---- values that are made of numbers of n bits, which give them back: `num` is the number, `make` what it makes

-- what is so of each value is so of each item
pub all-made : {A V : Type 0} (n : ℕ) {num : A → ℕ} (make : ℕ → V) {ok : A → V} → ((x : A) → num x < 2 ^ n)
    → ((x : A) → make (num x) ≡ ok x) → (xs : List A) → All (λ x. (num x < 2 ^ n) × (make (num x) ≡ ok x)) xs
all-made n make small again xs = λ k d below. (small (get_or xs k d), again (get_or xs k d))

flat_map-map : {A B : Type 0} (f : ℕ → List B) (num : A → ℕ) (xs : List A)
    → flat_map f (map num xs) ≡ flat_map (λ x. f (num x)) xs
flat_map-map f num [] = refl
flat_map-map f num (x ∷ xs) = ap (λ (l : List _). f (num x) ++ l) (flat_map-map f num xs)

module _ {A V : Type 0} (o : Order) (size n : ℕ) (num : A → ℕ) (make : ℕ → V) (ok : A → V) (xs : List A)
    (le : nat_le n size ≡ true) (known : All (λ x. (num x < 2 ^ n) × (make (num x) ≡ ok x)) xs) where
  fit : All (λ x. num x < 2 ^ n) xs
  fit = All-weaker (λ x. (num x < 2 ^ n) × (make (num x) ≡ ok x)) (λ x. num x < 2 ^ n) (λ x is. is.0) xs known

  made : (ys : List A) → All (λ x. (num x < 2 ^ n) × (make (num x) ≡ ok x)) ys → map make (map num ys) ≡ map ok ys
  made [] all = refl
  made (y ∷ ys) all =
      let Is = λ (x : A). (num x < 2 ^ n) × (make (num x) ≡ ok x) in
      rw ((All-head Is y ys all).1, made ys (All-tail Is y ys all)) refl

  -- each is read back by itself
  pub made-each : All (λ x. IsReadAs (unsigned o size n (num x) ∷ []) (and_then (unsigned_decoder o size n) (λ k. pure (make k)))
      (ok x)) xs
  made-each =
      All-weaker (λ x. (num x < 2 ^ n) × (make (num x) ≡ ok x)) (λ x. IsReadAs (unsigned o size n (num x) ∷ [])
      (and_then (unsigned_decoder o size n) (λ k. pure (make k))) (ok x))
      (λ x is. made-read o size n (num x) make (ok x) le is.0 is.1) xs known

  pub packs-made : (count : ℕ) → length xs ≡ count
      → Packs (flat_map (λ x. unsigned o size n (num x) ∷ []) xs) (count * n)
  packs-made count is =
      packs-each (λ x. unsigned o size n (num x)) n count xs is (All-weaker (λ x. num x < 2 ^ n)
      (λ x. IsWritten (unsigned o size n (num x)) n) (λ x fits. unsigned-written o size n (num x) le fits) xs fit)

  -- and all of them, as an array; `whole` is what they say together
  pub made_items-back : {B C : Type 0} (es : List Encoder) (b : B) (count : ℕ) (whole : List V → C) (a : C)
      (f : C → Decoder B) → length xs ≡ count → whole (map ok xs) ≡ a → RoundTrip (f a) es b
      → RoundTrip (and_then (and_then (items_decoder (unsigned_decoder o size n) count) (λ v. pure (whole (map make v)))) f)
      (flat_map (λ x. unsigned o size n (num x) ∷ []) xs ++ es) b
  made_items-back es b count whole a f is said behind =
      let each = unsigned_decoder o size n in
      let ws = flat_map (λ x. unsigned o size n (num x) ∷ []) xs in
      let e = λ (k : ℕ). and_then (items_decoder each k) (λ v. pure (whole (map make v))) in
      let words = flat_map-map (λ k. unsigned o size n k ∷ []) num xs in
      let read = numbers-read o size n (map num xs) le (All-map (λ x. x < 2 ^ n) num xs fit) in
      let long : length (map num xs) ≡ count = length-map xs num ∙ is in
      let all : IsReadAs ws (items_decoder each count) (map num xs) =
      subst (λ (es : List Encoder). IsReadAs es (items_decoder each count) (map num xs)) words
      (subst (λ (k : ℕ). IsReadAs (flat_map (λ k. unsigned o size n k ∷ []) (map num xs)) (items_decoder each k)
      (map num xs)) long read) in
      let value : whole (map make (map num xs)) ≡ a = ap whole (made xs known) ∙ said in
      part-back (e count) f ws es a b
      (subst (IsReadAs ws (e count)) value (mapped-read (λ v. whole (map make v)) ws (items_decoder each count) (map num xs) all))
      behind

-- such an array among known bits
module _ {A B : Type 0} (b : List Bool) (k l n count : ℕ) (o : Order) (size : ℕ) (make : List ℕ → A) (f : A → Decoder B)
  where
    pub made_items-finds : (r : Result B Error) → nat_le n size ≡ true → nat_le (count * n) l ≡ true
        → Finds b (k + count * n) (f (make (map (number o) (words n count (take (count * n) (drop k b)))))) (l - count * n) r
        → Finds b k (and_then (and_then (items_decoder (unsigned_decoder o size n) count) (λ v. pure (make v))) f) l r
    made_items-finds r fits le found =
        let e = items_decoder (unsigned_decoder o size n) count in
        let word = items-word (unsigned-word o size n (leb-true n size fits)) count in
        next-finds b k (count * n) l (and_then e (λ v. pure (make v))) f (λ w. make (map (number o) (words n count w))) r
        (mapped-word e (count * n) (λ w. map (number o) (words n count w)) make word) le found

module _ {A B E : Type 0} (b : List Bool) (k l n count : ℕ) (o : Order) (size : ℕ) (make : List ℕ → Result A E)
    (f : A → Decoder (Result B E)) where
  pub part_items-finds : (a : A) (r : Result (Result B E) Error) → nat_le n size ≡ true → nat_le (count * n) l ≡ true
      → make (map (number o) (words n count (take (count * n) (drop k b)))) ≡ Ok a
      → Finds b (k + count * n) (f a) (l - count * n) r
      → Finds b k (and_then (and_then (items_decoder (unsigned_decoder o size n) count) (λ v. pure (make v))) (part_then f)) l r
  part_items-finds a r fits le is found =
      made_items-finds b k l n count o size make (part_then f) r fits le (rw is found)

  pub part_items-misses : (x : E) → nat_le n size ≡ true → nat_le (count * n) l ≡ true
      → make (map (number o) (words n count (take (count * n) (drop k b)))) ≡ Err x → l - count * n ≡ 0
      → Finds b k (and_then (and_then (items_decoder (unsigned_decoder o size n) count) (λ v. pure (make v))) (part_then f)) l
      (Ok (Err x))
  part_items-misses x fits le is ends =
      made_items-finds b k l n count o size make (part_then f) (Ok (Err x)) fits le
      (rw (is, ends) (pure-finds b (k + count * n) (Err x)))

-- ---- a loop that makes items of numbers, each in its place

-- all of them are there, or the first error
pub all_ok-items : {A E : Type 0} (xs : List A) → all_ok {E = E} (map (λ x. Ok x) xs) ≡ Ok xs
all_ok-items [] = refl
all_ok-items {E = E} (x ∷ xs) = rw (all_ok-items {E = E} xs) refl

all_ok-stops : {A E : Type 0} (xs : List A) (e : E) (rs : List (Result A E))
    → all_ok (map (λ x. Ok x) xs ++ Err e ∷ rs) ≡ Err e
all_ok-stops [] e rs = refl
all_ok-stops (x ∷ xs) e rs = rw (all_ok-stops xs e rs) refl

module _ {A V : Type 0} (make : ℕ → V) (ok : A → V) (ns : List ℕ) (xs : List A) (k : ℕ) where
  -- one more
  pub made-put : (d : ℕ) (x : A) → k < length ns → k < length xs → map make (take k ns) ≡ map ok (take k xs)
      → make (get_or ns k d) ≡ ok x → map make (take (k + 1) ns) ≡ map ok (take (k + 1) (set xs k x))
  made-put d x in_numbers in_items before is =
      map_more make ns k d in_numbers
      ∙ rw (before, is, add-one k, take-suc-set xs k x in_items, map_push ok (take k xs) x) refl

  -- all of them
  pub made-all : k ≡ length ns → k ≡ length xs → map make (take k ns) ≡ map ok (take k xs) → map make ns ≡ map ok xs
  made-all numbers items before =
      let all_numbers : take k ns ≡ ns = ap (λ m. take m ns) numbers ∙ take-length ns in
      let all_items : take k xs ≡ xs = ap (λ m. take m xs) items ∙ take-length xs in
      ap (map make) (sym all_numbers) ∙ before ∙ ap (map ok) all_items

-- one that fails stops them
pub made-stop : {A E : Type 0} (make : ℕ → Result A E) (ns : List ℕ) (xs : List A) (k d : ℕ) (e : E) → k < length ns
    → map make (take k ns) ≡ map (λ x. Ok x) (take k xs) → make (get_or ns k d) ≡ Err e → all_ok (map make ns) ≡ Err e
made-stop make ns xs k d e inside before is =
    ap (λ (l : List ℕ). all_ok (map make l)) (split_at ns k d inside)
    ∙ rw (map-append make (take k ns) (get_or ns k d ∷ drop (suc k) ns), before, is)
    (all_ok-stops (take k xs) e (map make (drop (suc k) ns)))
