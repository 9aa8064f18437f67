-- Numbers of bytes, and encodings within them.
use Rattle.std.proofs.Common.{◌≡◌, ℕ, ◌+◌, ◌*◌, ◌≤◌, List, ◌++◌, length, take, drop, sym, ap, ap₂, ◌∙◌, arith, take-append-drop, inl, inr}
use Rattle.std.proofs.lemmas.Bool.{cases_lt}
use Rattle.std.proofs.lemmas.List.{length-take-le, take_all}
use Rattle.std.proofs.Math.Seq.{drop-append_seam}
use Rattle.bitstream_number.specs.Word.{Order, word, bits}
use Rattle.bitstream_number.proofs.WordLemmas.{length-word, length-bits, bits-append}
use Rattle.bitstream_order.specs.Parts.{piece}
use Rattle.bitstream_order.proofs.Moving.PieceLemmas.{prefix_bits, piece_more, take_less}

-- the bits of the first bytes, and of the bytes after them
pub bits-take : (o : Order) (k : ℕ) (xs : List ℕ) → k ≤ length xs → bits o (take k xs) ≡ take (8 * k) (bits o xs)
bits-take o k xs le =
    sym (prefix_bits o (take k xs) (drop k xs))
    ∙ ap₂ (λ j l. take (8 * j) (bits o l)) (length-take-le k xs le) (take-append-drop k xs)

pub bits-drop : (o : Order) (k : ℕ) (xs : List ℕ) → k ≤ length xs → bits o (drop k xs) ≡ drop (8 * k) (bits o xs)
bits-drop o k xs le =
    let prefix = bits o (take k xs) in
    let long : length prefix ≡ 8 * k = length-bits o (take k xs) ∙ ap (λ j. 8 * j) (length-take-le k xs le) in
    sym (ap₂ drop (sym long) (ap (bits o) (sym (take-append-drop k xs)) ∙ bits-append o (take k xs) (drop k xs))
    ∙ drop-append_seam prefix (bits o (drop k xs)))

-- a number whose bytes begin with some
pub prefix_window : (o : Order) (bytes buf z : List ℕ) (w : ℕ) → word o 64 w ≡ bits o buf → buf ≡ bytes ++ z
    → take (8 * length bytes) (word o 64 w) ≡ bits o bytes
prefix_window o bytes buf z w e is =
    ap (take (8 * length bytes)) (e ∙ ap (bits o) is) ∙ prefix_bits o bytes z

-- some bits in the midst of those of a number
pub middle_word : (o : Order) (size w at k : ℕ) → at + k ≤ size
    → drop at (take (at + k) (word o size w)) ≡ word o k (piece o size w at k)
middle_word o size w at k le =
    let prefix = take at (word o size w) in
    let long : length prefix ≡ at = length-take-le at (word o size w) (omega (arith, length-word o size w)) in
    ap₂ drop (sym long) (piece_more o size w at k le) ∙ drop-append_seam prefix (word o k (piece o size w at k))

-- fewer than eight bytes, with others after them
pub padded_window : (o : Order) (bytes prefix z : List ℕ) (w : ℕ) → length bytes ≤ 8 → word o 64 w ≡ bits o (prefix ++ z)
    → prefix ≡ bytes → take (8 * length (take 8 bytes)) (word o 64 w) ≡ bits o (take 8 bytes)
padded_window o bytes prefix z w few e is =
    rw (take_all 8 bytes few) (prefix_window o bytes (prefix ++ z) z w e (ap (λ x. x ++ z) is))

-- the first bytes, with others after them
pub first_window : (o : Order) (bytes prefix z : List ℕ) (n w : ℕ) → n ≤ length bytes → word o 64 w ≡ bits o (prefix ++ z)
    → prefix ≡ take n bytes → take (8 * n) (word o 64 w) ≡ bits o (take n bytes)
first_window o bytes prefix z n w there e is =
    ap (λ k. take (8 * k) (word o 64 w)) (sym (length-take-le n bytes there))
    ∙ prefix_window o (take n bytes) (prefix ++ z) z w e (ap (λ x. x ++ z) is)

-- the first bits of both
pub first_agree : (o : Order) (bytes : List ℕ) (n total w : ℕ) → n ≤ length bytes → total ≤ 8 * n → 8 * n ≤ 64
    → take (8 * n) (word o 64 w) ≡ bits o (take n bytes) → take total (word o 64 w) ≡ take total (bits o bytes)
first_agree o bytes n total w there within few window =
    let size : length (take (8 * n) (word o 64 w)) ≡ 8 * n =
    length-take-le (8 * n) (word o 64 w) (omega (arith, length-word o 64 w)) in
    let other : length (take (8 * n) (bits o bytes)) ≡ 8 * n =
    length-take-le (8 * n) (bits o bytes) (omega (arith, length-bits o bytes)) in
    sym (take_less total (8 * n) (word o 64 w) (omega (arith, size)))
    ∙ ap (take total) (window ∙ bits-take o n bytes there)
    ∙ take_less total (8 * n) (bits o bytes) (omega (arith, other))

pub eight_agree : (o : Order) (bytes : List ℕ) (total w : ℕ) → total ≤ 64 → total ≤ 8 * length bytes
    → take (8 * length (take 8 bytes)) (word o 64 w) ≡ bits o (take 8 bytes)
    → take total (word o 64 w) ≡ take total (bits o bytes)
eight_agree o bytes total w few there window = elim (cases_lt 8 (length bytes)) [
  | inl more ↦
      let size : length (take 8 bytes) ≡ 8 = length-take-le 8 bytes (omega arith) in
      first_agree o bytes 8 total w (omega arith) (omega arith) (omega arith)
      (ap (λ k. take (8 * k) (word o 64 w)) (sym size) ∙ window)
  | inr le ↦
      let all : take 8 bytes ≡ bytes = take_all 8 bytes le in
      first_agree o bytes (length bytes) total w (omega arith) there (omega arith)
      (ap (λ xs. take (8 * length xs) (word o 64 w)) (sym all) ∙ window ∙ ap (bits o) all
      ∙ sym (ap (bits o) (take_all (length bytes) bytes (omega arith))))
]
