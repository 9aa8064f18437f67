-- Runs of digits, byte by byte.
use Rattle.std.proofs.Common.{◌≡◌, ℕ, zero, suc, ◌+◌, ◌-◌, ◌^◌, ◌<◌, ◌≤◌, Bool, true, false, not, List, [], ◌∷◌, ◌++◌, length, take, drop, replicate, Option, Result, Ok, Err, refl, sym, ap, ◌∙◌, subst, arith, inl, inr, append-nil, append_assoc, length-append, take-append-drop, take_all}
use Rattle.std.specs.Prelude.{◌&&◌, ◌==◌}
use Rattle.std.specs.Int.{leading_zeros, leading_ones, trailing_zeros, trailing_ones, w8}
use Rattle.std.specs.Result.{IsErrAnd}
use Rattle.std.specs.Int.Count.{count_leading_zeros, count_trailing_zeros}
use Rattle.std.proofs.KnownBytes.{Consumes-nil, Consumes-trans}
use Rattle.std.proofs.lemmas.Bool.{cases_lt}
use Rattle.std.proofs.lemmas.Bool.Decides.{eqb_tells}
use Rattle.std.proofs.lemmas.List.{length-drop, length-take-le}
use Rattle.bitstream_count.specs.Unary.{unary, lead}
use Rattle.bitstream_count.proofs.UnaryLemmas.{lead_le, others-split, unary-split, take_others, prefix_is_unary}
use Rattle.bitstream_count.specs.declared.error.Error.{Error}
use Rattle.bitstream_number.specs.Word.{Order, High, Low, digits, word, bits}
use Rattle.bitstream_number.proofs.WordLemmas.{length-word, bits-append}
use Rattle.bitstream_order.specs.Parts.{first_part, piece}
use Rattle.bitstream_order.specs.Port.{PortState, Fetched}
use Rattle.bitstream_order.specs.Refusal.{Refusal}
use Rattle.bitstream_order.specs.declared.kernels.unary.TakenUnary.{TakenUnary}
use Rattle.bitstream_order.specs.Moving.TakeUnary.{TakesBetween, TakesLongUnary, RefusesUnary, TakesUnary}
use Rattle.bitstream_order.proofs.Moving.PieceLemmas.{piece_more, first_bits, take_less}

-- ---- what a count of a byte's digits is, byte by byte

each : (ℕ → Bool) → ℕ → Bool
each p zero = true
each p (suc n) = p n && each p n

pub both : (x y : Bool) → (x && y) ≡ true → (x ≡ true) × (y ≡ true)
both true y h = (refl, h)
both false y h = cc

each_holds : (p : ℕ → Bool) (n : ℕ) → each p n ≡ true → (b : ℕ) → b < n → p b ≡ true
unfolding each
each_holds p zero h b less = absurd (omega arith)
each_holds p (suc n) h b less = elim (cases_lt b n) [
  | inl before ↦ each_holds p n (both (p n) (each p n) h).1 b before
  | inr after ↦ let last : n ≡ b = omega arith in subst (λ i. p i ≡ true) last (both (p n) (each p n) h).0
]

-- two functions that agree at each byte
agree : (f g : ℕ → ℕ) → each (λ b. f b == g b) 256 ≡ true → (b : ℕ) → b < 256 → f b ≡ g b
agree f g h b less = elim (eqb_tells (f b) (g b)) [
  | inl same ↦ same.1
  | inr other ↦ let yes : (f b == g b) ≡ true = each_holds (λ i. f i == g i) 256 h b less in let no = other.0 in cc
]

leading_zeros_table : each (λ b. leading_zeros w8 b == lead true (word High 8 b)) 256 ≡ true
unfolding each digits count_leading_zeros
leading_zeros_table = refl

leading_ones_table : each (λ b. leading_ones w8 b == lead false (word High 8 b)) 256 ≡ true
unfolding each digits count_leading_zeros
leading_ones_table = refl

trailing_zeros_table : each (λ b. trailing_zeros w8 b == lead true (word Low 8 b)) 256 ≡ true
unfolding each digits count_trailing_zeros
trailing_zeros_table = refl

trailing_ones_table : each (λ b. trailing_ones w8 b == lead false (word Low 8 b)) 256 ≡ true
unfolding each digits count_trailing_zeros
trailing_ones_table = refl

pub leading_zeros_is : (b : ℕ) → b < 256 → leading_zeros w8 b ≡ lead true (word High 8 b)
leading_zeros_is = agree (leading_zeros w8) (λ b. lead true (word High 8 b)) leading_zeros_table

pub leading_ones_is : (b : ℕ) → b < 256 → leading_ones w8 b ≡ lead false (word High 8 b)
leading_ones_is = agree (leading_ones w8) (λ b. lead false (word High 8 b)) leading_ones_table

pub trailing_zeros_is : (b : ℕ) → b < 256 → trailing_zeros w8 b ≡ lead true (word Low 8 b)
trailing_zeros_is = agree (trailing_zeros w8) (λ b. lead true (word Low 8 b)) trailing_zeros_table

pub trailing_ones_is : (b : ℕ) → b < 256 → trailing_ones w8 b ≡ lead false (word Low 8 b)
trailing_ones_is = agree (trailing_ones w8) (λ b. lead false (word Low 8 b)) trailing_ones_table

-- ---- what was taken between two places

pub between_none : (o : Order) (x : List Bool) (p : PortState) → TakesBetween o x p [] x p
between_none o x p = record {
  bytes = [];
  loses = Consumes-nil p.bytes;
  fetched = omega arith;
  refusals = refl;
  references = refl;
  word = append-nil x;
}

between_as : (o : Order) (x w y v z : List Bool) (old new : PortState) → w ++ y ≡ v ++ z → TakesBetween o x old w y new
    → TakesBetween o x old v z new
between_as o x w y v z old new same h = record {
  bytes = h.bytes;
  loses = h.loses;
  fetched = h.fetched;
  refusals = h.refusals;
  references = h.references;
  word = h.word ∙ same;
}

-- a byte more
between_more : (o : Order) (x w : List Bool) (b : ℕ) (old mid new : PortState) → TakesBetween o x old w [] mid
    → Fetched mid (b ∷ []) new → TakesBetween o x old w (word o 8 b) new
between_more o x w b old mid new h k = record {
  bytes = h.bytes ++ b ∷ [];
  loses = Consumes-trans old.bytes mid.bytes new.bytes h.bytes (b ∷ []) h.loses k.loses;
  fetched = let f = h.fetched in let g = k.fetched in let l = length-append h.bytes (b ∷ []) in omega arith;
  refusals = k.refusals ∙ h.refusals;
  references = k.references ∙ h.references;
  word =
      ap (λ l. x ++ l) (bits-append o h.bytes (b ∷ [])) ∙ sym (append_assoc x (bits o h.bytes) (bits o (b ∷ [])))
      ∙ ap (λ l. l ++ bits o (b ∷ [])) (h.word ∙ append-nil w)
      ∙ ap (λ l. w ++ l) (append-nil (word o 8 b));
}

-- ---- the bits of a byte that wait

-- the first ones
held_bits : (o : Order) (byte left : ℕ) → left ≤ 8 → word o left (first_part o byte 8 left) ≡ take left (word o 8 byte)
held_bits o byte left le = sym (first_bits o byte 8 left le)

-- all of them
held_byte : (o : Order) (byte : ℕ) → word o 8 byte ≡ word o 8 (first_part o byte 8 8)
held_byte o byte = sym (take_all 8 (word o 8 byte) (omega (arith, length-word o 8 byte)))
    ∙ first_bits o byte 8 8 (omega arith)

-- a byte more, all of whose bits wait
pub byte_waits : (o : Order) (x w : List Bool) (b : ℕ) (old mid new : PortState) → TakesBetween o x old w [] mid
    → Fetched mid (b ∷ []) new → TakesBetween o x old w (word o 8 (first_part o b 8 8)) new
byte_waits o x w b old mid new h k = subst (λ y. TakesBetween o x old w y new) (held_byte o b)
    (between_more o x w b old mid new h k)

pub lead_of_byte : (o : Order) (stop : Bool) (b r : ℕ) → r ≡ lead stop (word o 8 b) → r ≤ 8
lead_of_byte o stop b r is = omega (arith, is, lead_le stop (word o 8 b), length-word o 8 b)

-- the bits after the first n bits
rest_bits : (o : Order) (byte n r : ℕ) → ((k : ℕ) → n + k ≤ 8 → first_part o r 8 k ≡ piece o 8 byte n k) → (k : ℕ)
    → n + k ≤ 8 → take (n + k) (word o 8 byte) ≡ take n (word o 8 byte) ++ take k (word o 8 r)
rest_bits o byte n r rest k le =
    piece_more o 8 byte n k le ∙ ap (λ w. take n (word o 8 byte) ++ w) (ap (word o k) (sym (rest k le))
    ∙ sym (first_bits o r 8 k (omega arith)))

-- the bits after a run and the bit that ends it
rest_twice : (o : Order) (byte n q r : ℕ) → ((k : ℕ) → n + k ≤ 8 → first_part o q 8 k ≡ piece o 8 byte n k)
    → ((k : ℕ) → 1 + k ≤ 8 → first_part o r 8 k ≡ piece o 8 q 1 k)
    → (k : ℕ) → n + (1 + k) ≤ 8 → take (n + (1 + k)) (word o 8 byte) ≡ take (n + 1) (word o 8 byte)
    ++ word o k (first_part o r 8 k)
rest_twice o byte n q r first then k le =
    rest_bits o byte n q first (1 + k) le ∙ ap (λ w. take n (word o 8 byte)
    ++ w) (rest_bits o q 1 r then k (omega arith))
    ∙ sym (append_assoc (take n (word o 8 byte)) (take 1 (word o 8 q)) (take k (word o 8 r)))
    ∙ ap (λ w. w ++ take k (word o 8 r)) (sym (rest_bits o byte n q first 1 (omega arith)))
    ∙ ap (λ w. take (n + 1) (word o 8 byte) ++ w) (first_bits o r 8 k (omega arith))

-- ---- turns

module _ (o : Order) (stop : Bool) (x : List Bool) (old : PortState) where
  -- no stop bit among the bits that wait
  pub all_others : (count byte left more : ℕ) (p : PortState) → left ≤ 8 → left ≤ lead stop (word o 8 byte) → more
      ≡ count + left
      → TakesBetween o x old (replicate count (not stop)) (word o left (first_part o byte 8 left)) p
      → TakesBetween o x old (replicate more (not stop)) [] p
  all_others count byte left more p le none sum h =
      between_as o x (replicate count (not stop)) (word o left (first_part o byte 8 left)) (replicate more (not stop))
      [] old p
      (ap (λ w. replicate count (not stop) ++ w) (held_bits o byte left le ∙ take_others stop left (word o 8 byte) none)
      ∙ sym (others-split stop count left more (sym sum)) ∙ sym (append-nil (replicate more (not stop)))) h

  -- the stop bit is among them
  pub lead_ends : (count byte left r more k q z : ℕ) (p : PortState) → left ≤ 8 → r ≡ lead stop (word o 8 byte)
      → r < left → k ≡ left - r - 1 → more ≡ count + r
      → ((k : ℕ) → r + k ≤ 8 → first_part o q 8 k ≡ piece o 8 byte r k)
      → ((k : ℕ) → 1 + k ≤ 8 → first_part o z 8 k ≡ piece o 8 q 1 k)
      → TakesBetween o x old (replicate count (not stop)) (word o left (first_part o byte 8 left)) p
      → TakesBetween o x old (unary stop more) (word o k (first_part o z 8 k)) p
  lead_ends count byte left r more k q z p le is less rest sum first then h =
      let w = word o 8 byte in
      let behind = word o k (first_part o z 8 k) in
      let parts : left ≡ r + (1 + k) = omega arith in
      let found : lead stop w < length w = omega (arith, is, length-word o 8 byte) in
      let next : r + 1 ≡ suc (lead stop w) = omega (arith, is) in
      let prefix : take (r + 1) w ≡ unary stop r = ap (λ n. take n w) next ∙ prefix_is_unary stop w found
      ∙ ap (unary stop) (sym is) in
      let held : word o left (first_part o byte 8 left) ≡ unary stop r ++ behind =
      held_bits o byte left le ∙ ap (λ n. take n w) parts ∙ rest_twice o byte r q z first then k (omega arith)
      ∙ ap (λ l. l ++ behind) prefix in
      between_as o x (replicate count (not stop)) (word o left (first_part o byte 8 left)) (unary stop more) behind old
      p
      (ap (λ l. replicate count (not stop) ++ l) held ∙ sym
      (append_assoc (replicate count (not stop)) (unary stop r) behind)
      ∙ ap (λ l. l ++ behind) (sym (unary-split stop count r more (sym sum)))) h

  -- enough other bits that the lead is too long
  pub lead_long : (count byte left r : ℕ) (p : PortState) → left ≤ 8 → r ≤ left → r ≤ lead stop (word o 8 byte)
      → count < 2 ^ 32 → 2 ^ 32 ≤ count + r
      → TakesBetween o x old (replicate count (not stop)) (word o left (first_part o byte 8 left)) p
      → TakesLongUnary o stop x old p
  lead_long count byte left r p le within others small long h =
      let w = word o 8 byte in
      let m = 2 ^ 32 - count in
      let held = take left w in
      let size : length held ≡ left = length-take-le left w (omega (arith, length-word o 8 byte)) in
      let prefix : take m held ≡ replicate m (not stop) = take_less m left w (omega (arith, size))
      ∙ take_others stop m w (omega arith) in
      record {
        count = count + m;
        long = omega arith;
        left = drop m held;
        few = omega (arith, size, length-drop m held);
        takes = between_as o x (replicate count (not stop)) (word o left (first_part o byte 8 left))
            (replicate (count + m) (not stop)) (drop m held) old p
            (ap (λ l. replicate count (not stop) ++ l) (held_bits o byte left le ∙ sym (take-append-drop m held)
            ∙ ap (λ l. l ++ drop m held) prefix)
            ∙ sym (append_assoc (replicate count (not stop)) (replicate m (not stop)) (drop m held))
            ∙ ap (λ l. l ++ drop m held) (sym (others-split stop count m (count + m) refl))) h;
      }

-- what the exit of a `?` returns
pub lead_refused : (may : Refusal → Type 0) (o : Order) (stop : Bool) (x : List Bool) (old new : PortState)
    (error : Error) (r : Result (Option TakenUnary) Error) → IsErrAnd r (λ y. y ≡ error)
    → RefusesUnary may o stop x old error new → TakesUnary may o stop x old r new
lead_refused may o stop x old new error (Ok a) is h = absurd is
lead_refused may o stop x old new error (Err y) is h = subst (λ z. RefusesUnary may o stop x old z new) (sym is) h
