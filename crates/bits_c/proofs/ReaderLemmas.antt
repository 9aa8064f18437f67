-- The place of a number among the bits of bytes.
use Rattle.std.proofs.Common.{◌≡◌, ◌∙◌, ◌+◌, ◌-◌, ◌*◌, ◌/◌, ◌%◌, ◌^◌, ◌<◌, ◌≤◌, ℕ, Bool, List, Ok, length, take, drop, sym, ap, subst, arith}
use Rattle.std.proofs.lemmas.Bool.{le-leb}
use Rattle.std.proofs.lemmas.List.{drop-drop, drop_at, length-drop, length-take-le, take-append-drop}
use Rattle.bitstream_io.proofs.WordLemmas.{bits-append, length-bits, number-lt}
use Rattle.bitstream_io.specs.Callers.{bits, and_then, pure, number, signed_number, skip_decoder, unsigned_decoder, signed_decoder, Order}
use Rattle.bitstream_io.proofs.CallerLemmas.{Finds, skip-finds, unsigned-finds, signed-finds, pure-finds}

pub number-found : (b : List Bool) (o : Order) (k n : ℕ) → n ≤ 64
    → Finds b 0 (and_then (skip_decoder k) (λ _. and_then (unsigned_decoder o 64 n) (λ v. pure v))) (k + n)
    (Ok (number o (take n (drop k b))))
number-found b o k n le =
    let start : 0 + k ≡ k = omega arith in
    let none : (k + n - k) - n ≡ 0 = omega arith in
    subst (λ (j : ℕ). Finds b 0 (and_then (skip_decoder k) (λ _. and_then (unsigned_decoder o 64 n) (λ v. pure v))) (k + n)
    (Ok (number o (take n (drop j b))))) start
    (skip-finds b 0 k (k + n) _ _ (le-leb k (k + n) (omega arith))
    (unsigned-finds b (0 + k) n (k + n - k) _ o 64 _ (le-leb n 64 le) (le-leb n (k + n - k) (omega arith))
    (subst (λ (z : ℕ). Finds b (0 + k + n) (pure (number o (take n (drop (0 + k) b)))) z
    (Ok (number o (take n (drop (0 + k) b))))) (sym none) (pure-finds b (0 + k + n) _))))

-- and a signed one
pub signed-found : (b : List Bool) (o : Order) (k n : ℕ) → 1 ≤ n → n ≤ 64
    → Finds b 0 (and_then (skip_decoder k) (λ _. and_then (signed_decoder o 64 n) (λ v. pure v))) (k + n)
    (Ok (signed_number o (take n (drop k b))))
signed-found b o k n some le =
    let start : 0 + k ≡ k = omega arith in
    let none : (k + n - k) - n ≡ 0 = omega arith in
    subst (λ (j : ℕ). Finds b 0 (and_then (skip_decoder k) (λ _. and_then (signed_decoder o 64 n) (λ v. pure v))) (k + n)
    (Ok (signed_number o (take n (drop j b))))) start
    (skip-finds b 0 k (k + n) _ _ (le-leb k (k + n) (omega arith))
    (signed-finds b (0 + k) n (k + n - k) _ o 64 _ (le-leb 1 n some) (le-leb n 64 le) (le-leb n (k + n - k) (omega arith))
    (subst (λ (z : ℕ). Finds b (0 + k + n) (pure (signed_number o (take n (drop (0 + k) b)))) z
    (Ok (signed_number o (take n (drop (0 + k) b))))) (sym none) (pure-finds b (0 + k + n) _))))

-- the bits after whole bytes are the bits of the bytes after them
pub bits-after : (o : Order) (k : ℕ) (xs : List ℕ) → k ≤ length xs → bits o (drop k xs) ≡ drop (8 * k) (bits o xs)
bits-after o k xs le =
    let size : length (bits o (take k xs)) ≡ 8 * k =
    let l = length-bits o (take k xs) in
    let m = length-take-le k xs le in
    omega (arith, l, m) in
    sym (drop_at (bits o (take k xs)) (bits o (drop k xs)) (8 * k) size)
    ∙ ap (drop (8 * k)) (sym (bits-append o (take k xs) (drop k xs)) ∙ ap (bits o) (take-append-drop k xs))

-- and the same after any number of bits
pub bits-from : (o : Order) (at : ℕ) (xs : List ℕ) → at / 8 ≤ length xs
    → drop (at % 8) (bits o (drop (at / 8) xs)) ≡ drop at (bits o xs)
bits-from o at xs le =
    let whole : 8 * (at / 8) + at % 8 ≡ at = omega arith in
    ap (drop (at % 8)) (bits-after o (at / 8) xs le) ∙ drop-drop (at % 8) (8 * (at / 8)) (bits o xs)
    ∙ ap (λ (k : ℕ). drop k (bits o xs)) whole

-- bits that were read as a number are fewer than the number's
pub part_below : (o : Order) (n k v : ℕ) (xs : List Bool) → k + n ≤ length xs → v ≡ number o (take n (drop k xs))
    → v < 2 ^ n
part_below o n k v xs within is =
    let d = length-drop k xs in
    rw is (subst (λ (j : ℕ). number o (take n (drop k xs)) < 2 ^ j)
    (length-take-le n (drop k xs) (omega (arith, d, within))) (number-lt o (take n (drop k xs))))
