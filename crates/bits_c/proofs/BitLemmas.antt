-- Single bits, and the bits before a stop bit.
use Rattle.std.proofs.Common.{◌≡◌, ◌∙◌, ◌+◌, ◌-◌, ◌*◌, ◌^◌, ◌<◌, ◌≤◌, ◌++◌, ◌∷◌, [], ℕ, suc, Bool, true, false, List, length, take, drop, get_or, set, min, inl, inr, refl, sym, ap, arith, append-nil}
use Rattle.std.specs.Prelude.{nat_eq}
use mathlib.Core.Bool.{beq}
use Rattle.std.proofs.Math.Nat.{pow-le-pow_right}
use Rattle.std.proofs.lemmas.Bool.{cases_lt}
use Rattle.std.proofs.lemmas.List.{drop-drop, drop_more, length-drop, length-take-le}
use lib.Seq.{take-add, take-suc-set}
use Rattle.bitstream_io.proofs.UnaryLemmas.{lead_le}
use Rattle.bitstream_io.proofs.WordLemmas.{bits-append, length-bits, word-number}
use Rattle.bitstream_io.specs.Callers.{Order, High, Low, bits, number, word}
use Rattle.bitstream_io.specs.Unary.{lead}
use Rattle.bitstream_io.specs.Word.{digits_number}

single : (o : Order) (b : Bool) → nat_eq (number o (b ∷ [])) 1 ≡ b
unfolding digits_number
single High true = refl
single High false = refl
single Low true = refl
single Low false = refl

-- a bit that was read as a number
pub bit-is : (o : Order) (xs : List Bool) (k v : ℕ) → k < length xs → v ≡ number o (take 1 (drop k xs))
    → nat_eq v 1 ≡ get_or xs k false
bit-is o xs k v less is =
    ap (λ (n : ℕ). nat_eq n 1) (is ∙ ap (λ it. number o (take 1 it)) (drop_more xs k false less)) ∙ single o (get_or xs k false)

lead-next : (stop b : Bool) (rest : List Bool) → beq b stop ≡ false → lead stop (b ∷ rest) ≡ suc (lead stop rest)
lead-next stop b rest other = rw other refl

lead-here : (stop b : Bool) (rest : List Bool) → beq b stop ≡ true → lead stop (b ∷ rest) ≡ 0
lead-here stop b rest same = rw same refl

-- another bit that is not the stop bit
pub lead-more : (stop b : Bool) (xs : List Bool) (at count : ℕ) → at + count < length xs → b ≡ get_or xs (at + count) false
    → beq b stop ≡ false → lead stop (drop at xs) ≡ count + lead stop (drop (at + count) xs)
    → lead stop (drop at xs) ≡ count + 1 + lead stop (drop (at + (count + 1)) xs)
lead-more stop b xs at count less is other before =
    let next : at + count + 1 ≡ at + (count + 1) = omega arith in
    let step : lead stop (drop (at + count) xs) ≡ suc (lead stop (drop (at + (count + 1)) xs)) =
    ap (lead stop) (drop_more xs (at + count) false less) ∙ ap (λ c. lead stop (c ∷ drop (at + count + 1) xs)) (sym is)
    ∙ lead-next stop b _ other ∙ ap (λ (k : ℕ). suc (lead stop (drop k xs))) next in
    omega (arith, before, step)

-- the stop bit
pub lead-stops : (stop b : Bool) (xs : List Bool) (at count : ℕ) → at + count < length xs → b ≡ get_or xs (at + count) false
    → beq b stop ≡ true → lead stop (drop at xs) ≡ count + lead stop (drop (at + count) xs) → lead stop (drop at xs) ≡ count
lead-stops stop b xs at count less is same before =
    let step : lead stop (drop (at + count) xs) ≡ 0 =
    ap (lead stop) (drop_more xs (at + count) false less) ∙ ap (λ c. lead stop (c ∷ drop (at + count + 1) xs)) (sym is)
    ∙ lead-here stop b _ same in
    omega (arith, before, step)

-- the bits before the stop bit are bits of the bytes
pub lead-within : (o : Order) (stop : Bool) (bytes : List ℕ) (at : ℕ) → at ≤ 8 * length bytes
    → at + lead stop (drop at (bits o bytes)) ≤ 8 * length bytes
lead-within o stop bytes at within =
    let l = length-bits o bytes in
    let d = length-drop at (bits o bytes) in
    let m = lead_le stop (drop at (bits o bytes)) in
    omega (arith, l, d, m, within)

-- one more byte in a buffer
pub fill-step : (o : Order) (bytes buffer : List ℕ) (at k v : ℕ) → k < length buffer → at + 8 * (k + 1) ≤ 8 * length bytes
    → v ≡ number o (take 8 (drop (at + 8 * k) (bits o bytes)))
    → bits o (take k buffer) ≡ take (8 * k) (drop at (bits o bytes))
    → bits o (take (k + 1) (set buffer k v)) ≡ take (8 * (k + 1)) (drop at (bits o bytes))
fill-step o bytes buffer at k v less room is before =
    let xs = bits o bytes in
    let w = take 8 (drop (at + 8 * k) xs) in
    let next : k + 1 ≡ suc k = omega arith in
    let more : 8 * (k + 1) ≡ 8 * k + 8 = omega arith in
    let size : length w ≡ 8 =
    let l = length-bits o bytes in
    let d = length-drop (at + 8 * k) xs in
    let m = length-take-le 8 (drop (at + 8 * k) xs) (omega (arith, l, d, room)) in
    m in
    let byte : word o 8 v ≡ w =
    ap (word o 8) is ∙ ap (λ (n : ℕ). word o n (number o w)) (sym size) ∙ word-number o w in
    ap (λ (n : ℕ). bits o (take n (set buffer k v))) next ∙ ap (bits o) (take-suc-set buffer k v less)
    ∙ bits-append o (take k buffer) (v ∷ []) ∙ ap (λ it. bits o (take k buffer) ++ it) (append-nil (word o 8 v) ∙ byte)
    ∙ ap (λ it. it ++ w) before ∙ ap (λ it. take (8 * k) (drop at xs) ++ take 8 it) (sym (drop-drop (8 * k) at xs))
    ∙ sym (take-add (8 * k) 8 (drop at xs)) ∙ ap (λ (n : ℕ). take n (drop at xs)) (sym more)

-- what a count of zeros up to a limit states, where `all` bits are left
pub lead-few : (z limit all n : ℕ) → z ≤ limit → (z < limit → n ≡ z) → limit ≡ min all 32 → z ≤ 31 → 31 < n → all < 32
lead-few z limit all n most stops is few long = elim (cases_lt z limit) [
  | inl less ↦ let same = stops less in omega (arith, same, few, long)
  | inr end ↦ omega (arith, is, few, end)
]

pub lead-found : (z limit all n : ℕ) → z ≤ limit → (z < limit → n ≡ z) → limit ≡ min all 32 → z ≤ 31 → 2 * z + 1 ≤ all
    → n ≡ z
lead-found z limit all n most stops is few room = elim (cases_lt z limit) [
  | inl less ↦ stops less
  | inr end ↦ absurd (omega (arith, is, few, end, room))
]

pub golomb-below : (z r : ℕ) → z ≤ 31 → r < 2 ^ z → 2 ^ z - 1 + r < 2 ^ 32
golomb-below z r few less =
    let most : 2 ^ z ≤ 2 ^ 31 = pow-le-pow_right (omega arith) few in
    omega (arith, most, less)
