-- Cases of an enum by their numbers, and arrays of such cases.
use Rattle.std.proofs.Common.{◌≡◌, ◌∙◌, ℕ, ◌*◌, ◌^◌, ◌<◌, true, List, [], ◌∷◌, ◌++◌, length, Result, Ok, refl, ap, subst}
use Rattle.std.specs.Prelude.{nat_le, nat_lt, map, flat_map}
use Rattle.std.specs.List.{All}
use Rattle.std.proofs.lemmas.Bool.{ltb-true}
use Rattle.std.proofs.lemmas.List.{map-id, length-map}
use Rattle.std.proofs.lemmas.List.Elements.{All-head, All-map, All-tail, All-weaker}
use Rattle.bitstream_io.specs.Callers.{Encoder, Order, all_ok, and_then, items_decoder, pure, unsigned_decoder}
use Rattle.bitstream_io.specs.Callers as call
use Rattle.bitstream_io.specs.ReadBack.{IsReadAs}
use Rattle.bitstream_io.proofs.CallerLemmas.{RoundTrip, numbers-read, unsigned-written}
use Rattle.bitstream_io.proofs.CallsBack.{mapped-read}
use Rattle.bitstream_io.proofs.EachLemmas.{all-made, all_ok-items, packs-made}
use Rattle.bitstream_format.specs.AtomLaws.{one-packs}
use Rattle.bitstream_format.specs.Format.{Format, Plain, Own}
use Rattle.bitstream_format.specs.Atoms as atom
use Rattle.bitstream_format.specs.Lists.{mapped, mapped-goes}

-- the cases of an enum, each with a number of n bits that gives the case back
abbrev pub cases : {A V : Type 0} {ok : A → V} (size n : ℕ) → nat_le n size ≡ true → (of : ℕ → V) (number : A → ℕ)
    → ((a : A) → nat_lt (number a) (2 ^ n) ≡ true) → ((a : A) → of (number a) ≡ ok a) → Format A V ok
cases size n le of number small again =
    mapped (atom.unsigned size n le) of number again (λ a. ltb-true (number a) (2 ^ n) (small a))

-- the cases of an enum, one of which holds the numbers that no other case has; a value fits if its number fits n bits
-- and gives the value back
abbrev pub open_cases : {A : Type 0} (size n : ℕ) → nat_le n size ≡ true → (of : ℕ → A) (number : A → ℕ) → Plain A
open_cases size n le of number = record {
  read = λ o. and_then (unsigned_decoder o size n) (λ v. pure (of v));
  write = λ o a. call.unsigned o size n (number a) ∷ [];
  size = λ a. n;
  facts = λ a. (number a < 2 ^ n) ∷ (of (number a) ≡ a) ∷ [];
  round_trip = λ o a fits. mapped-goes (atom.unsigned size n le) of number a o a fits.1 fits.0;
  packs = λ o a fits. one-packs (unsigned-written o size n (number a) le fits.0);
  besides = λ a. (number a < 2 ^ n) ∷ (of (number a) ≡ a) ∷ [];
  accepted = λ o a at fits all. fits;
}

-- ---- arrays

flat_map-map : {A : Type 0} (f : ℕ → List Encoder) (number : A → ℕ) (xs : List A)
    → flat_map f (map number xs) ≡ flat_map (λ x. f (number x)) xs
flat_map-map f number [] = refl
flat_map-map f number (x ∷ xs) = ap (λ (es : List Encoder). f (number x) ++ es) (flat_map-map f number xs)

module _ {A V : Type 0} (n : ℕ) (of : ℕ → V) (number : A → ℕ) (ok : A → V) where
  -- the number of a case fits n bits, and gives the case back
  abbrev pub IsCase : A → Type 0
  IsCase x = (number x < 2 ^ n) × (of (number x) ≡ ok x)

  cases-again : (xs : List A) → All IsCase xs → map of (map number xs) ≡ map ok xs
  cases-again [] all = refl
  cases-again (x ∷ xs) all = rw ((All-head IsCase x xs all).1, cases-again xs (All-tail IsCase x xs all)) refl

  module _ {C : Type 0} (o : Order) (size count : ℕ) (le : nat_le n size ≡ true) (whole : List V → C) (xs : List A)
      (is : length xs ≡ count) (known : All IsCase xs) where
    pub array-goes : (c : C) → whole (map ok xs) ≡ c → RoundTrip
        (and_then (items_decoder (unsigned_decoder o size n) count) (λ v. pure (whole (map of v))))
        (flat_map (λ x. call.unsigned o size n (number x) ∷ []) xs) c
    array-goes c said =
        let each = unsigned_decoder o size n in
        let ws = flat_map (λ (x : A). call.unsigned o size n (number x) ∷ []) xs in
        let fit = All-weaker IsCase (λ x. number x < 2 ^ n) (λ x h. h.0) xs known in
        let words = flat_map-map (λ k. call.unsigned o size n k ∷ []) number xs in
        let read = numbers-read o size n (map number xs) le (All-map (λ x. x < 2 ^ n) number xs fit) in
        let long : length (map number xs) ≡ count = length-map xs number ∙ is in
        let all : IsReadAs ws (items_decoder each count) (map number xs) =
        subst (λ (es : List Encoder). IsReadAs es (items_decoder each count) (map number xs)) words
        (subst (λ (k : ℕ). IsReadAs (flat_map (λ k. call.unsigned o size n k ∷ []) (map number xs)) (items_decoder each k)
        (map number xs)) long read) in
        let value : whole (map of (map number xs)) ≡ c = ap whole (cases-again xs known) ∙ said in
        record {
          back =
              subst (IsReadAs ws (and_then (items_decoder each count) (λ v. pure (whole (map of v))))) value
              (mapped-read (λ v. whole (map of v)) ws (items_decoder each count) (map number xs) all);
        }

-- an array of values that numbers of n bits give: `whole` is what they give together
abbrev pub array_by : {A V C : Type 0} {all : List A → C} (count size n : ℕ) → nat_le n size ≡ true → (of : ℕ → V)
    (number : A → ℕ) (ok : A → V) (whole : List V → C) → ((xs : List A) → whole (map ok xs) ≡ all xs) → Format (List A) C all
array_by {all = all} count size n le of number ok whole said = record {
  read = λ o. and_then (items_decoder (unsigned_decoder o size n) count) (λ v. pure (whole (map of v)));
  write = λ o xs. flat_map (λ x. call.unsigned o size n (number x) ∷ []) xs;
  size = λ xs. count * n;
  facts = λ xs. (length xs ≡ count) ∷ All (IsCase n of number ok) xs ∷ [];
  round_trip = λ o xs fits. array-goes n of number ok o size count le whole xs fits.0 fits.1 (all xs) (said xs);
  packs = λ o xs fits. packs-made o size n number of ok xs le fits.1 count fits.0;
  besides = λ xs. (length xs ≡ count) ∷ All (IsCase n of number ok) xs ∷ [];
  accepted = λ o xs at fits all. fits;
}

-- the same, where each value has such a number
abbrev pub array_known : {A V C : Type 0} {all : List A → C} (count size n : ℕ) → nat_le n size ≡ true → (of : ℕ → V)
    (number : A → ℕ) (ok : A → V) (whole : List V → C) → ((xs : List A) → whole (map ok xs) ≡ all xs)
    → ((a : A) → nat_lt (number a) (2 ^ n) ≡ true) → ((a : A) → of (number a) ≡ ok a) → Format (List A) C all
array_known {A = A} {all = all} count size n le of number ok whole said small again =
    let known = λ (xs : List A). all-made n of (λ a. ltb-true (number a) (2 ^ n) (small a)) again xs in
    record (array_by {all = all} count size n le of number ok whole said) {
      facts = λ xs. (length xs ≡ count) ∷ [];
      round_trip = λ o xs is. array-goes n of number ok o size count le whole xs is (known xs) (all xs) (said xs);
      packs = λ o xs is. packs-made o size n number of ok xs le (known xs) count is;
      besides = λ xs. (length xs ≡ count) ∷ [];
      accepted = λ o xs at is all. is;
    }

-- an array of the cases of an enum, each of whose numbers has a case
abbrev pub cases_array : {A : Type 0} (count size n : ℕ) → nat_le n size ≡ true → (of : ℕ → A) (number : A → ℕ)
    → ((a : A) → nat_lt (number a) (2 ^ n) ≡ true) → ((a : A) → of (number a) ≡ a) → Plain (List A)
cases_array {A = A} count size n le of number small again =
    array_known count size n le of number (λ x. x) (λ (xs : List A). xs) (λ xs. map-id xs) small again

-- an array of an enum whose read fails on any other number
abbrev pub own_cases_array : {A E : Type 0} (count size n : ℕ) → nat_le n size ≡ true → (of : ℕ → Result A E) (number : A → ℕ)
    → ((a : A) → nat_lt (number a) (2 ^ n) ≡ true) → ((a : A) → of (number a) ≡ Ok a) → Own E (List A)
own_cases_array count size n le of number small again =
    array_known count size n le of number (λ x. Ok x) all_ok (λ xs. all_ok-items xs) small again

-- an array of an enum with a case for the other numbers
abbrev pub open_cases_array : {A : Type 0} (count size n : ℕ) → nat_le n size ≡ true → (of : ℕ → A) (number : A → ℕ)
    → Plain (List A)
open_cases_array {A = A} count size n le of number =
    array_by count size n le of number (λ x. x) (λ (xs : List A). xs) (λ xs. map-id xs)
