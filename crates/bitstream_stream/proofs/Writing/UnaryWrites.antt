-- A run that is written as several numbers.
use Rattle.std.proofs.Common.{Result, Err, subst, ◌≡◌, ℕ, zero, suc, ◌+◌, ◌-◌, ◌*◌, ◌/◌, ◌^◌, ◌<◌, ◌≤◌, Bool, true, false, not, List, ◌∷◌, ◌++◌, replicate, reverse, Ok, ap, ◌∙◌, arith}
use Rattle.std.specs.Result.{IsErrAnd}
use mir.Val.{bool_byte}
use Rattle.bitstream_count.specs.Unary.{unary}
use Rattle.bitstream_count.proofs.UnaryLemmas.{others-split, unary-split}
use Rattle.bitstream_count.specs.declared.error.Error.{Error}
use Rattle.bitstream_order.specs.Parts.{put_number}
use Rattle.bitstream_order.specs.Refusal.{Refusal}
use Rattle.bitstream_order.proofs.PartLemmas.{put_word}
use Rattle.bitstream_stream.specs.Writing.Carries.{WriterState}
use Rattle.bitstream_stream.specs.Writing.Sink.{Appended, WriteRefused}
use Rattle.bitstream_stream.specs.Writing.Writer.{queue_sink, Pushes}
use Rattle.bitstream_stream.proofs.Writing.SinkParts.{WriteRefused-behind, WriteRefused-longer}
use Rattle.bitstream_stream.proofs.Writing.WriterLemmas.{one_word}
use Rattle.std.proofs.Math.Nat.{pow-suc}
use Rattle.std.proofs.lemmas.Nat.{pow_pos}
use Rattle.bitstream_order.proofs.Moving.TakeLemmas.{word-none}
use Rattle.bitstream_number.specs.Word.{Order, High, Low, digits, word}
use Rattle.bitstream_number.proofs.WordLemmas.{word_cat}
use Rattle.bitstream_stream.proofs.Writing.WriteLemmas.{word-bit}
use Rattle.bitstream_stream.proofs.Writing.BytesWritten.{word-zeros, reverse-replicate, appended_more}
use Rattle.bitstream_number.proofs.Masks.{mask-is}

-- ---- bits that are all the same

digits-ones : (n : ℕ) → digits n (2 ^ n - 1) ≡ replicate n true
digits-ones zero = word-none High (2 ^ 0 - 1)
digits-ones (suc n) =
    let next : suc n ≡ 1 + n = omega arith in
    let least : 0 < 2 ^ n = pow_pos n in
    let number : 2 ^ suc n - 1 ≡ 1 * 2 ^ n + (2 ^ n - 1) = omega (arith, pow-suc 2 n, least) in
    ap (λ (v : ℕ). digits (suc n) v) number ∙ ap (λ (k : ℕ). word High k (1 * 2 ^ n + (2 ^ n - 1))) next
    ∙ word_cat High 1 n 1 (2 ^ n - 1) (omega (arith, least))
    ∙ ap (λ (l : List Bool). l ++ word High n (2 ^ n - 1)) (word-bit High true)
    ∙ ap (λ (l : List Bool). true ∷ l) (digits-ones n)

word-ones : (o : Order) (n : ℕ) → word o n (2 ^ n - 1) ≡ replicate n true
word-ones High n = digits-ones n
word-ones Low n = ap reverse (digits-ones n) ∙ reverse-replicate n true

pub zeros_others : (n v : ℕ) → v ≡ 0 → (o : Order) → word o n v ≡ replicate n (not true)
zeros_others n v is o = ap (word o n) is ∙ word-zeros o n

pub ones_others : (size n all v : ℕ) → n ≤ size → all ≡ 2 ^ size - 1 → v ≡ all / 2 ^ (size - n) → (o : Order)
    → word o n v ≡ replicate n (not false)
ones_others size n all v le greatest is o = ap (word o n) (mask-is size n all v le greatest is) ∙ word-ones o n

bit_small : (b : Bool) (n : ℕ) → n ≡ bool_byte b → n < 2 ^ 1
bit_small true n e = omega arith
bit_small false n e = omega arith

-- the encoding of a run: its bits, and the stop bit as a number after them
pub lead_word : (stop : Bool) (o : Order) (n v b z : ℕ) → v < 2 ^ n
    → ((o : Order) → word o n v ≡ replicate n (not stop)) → b ≡ bool_byte stop → z ≡ put_number o v n b 1
    → word o (n + 1) z ≡ unary stop n
lead_word stop o n v b z small is bit put =
    ap (word o (n + 1)) put ∙ put_word o v n b 1 small (bit_small stop b bit) ∙ ap (λ w. w ++ word o 1 b) (is o)
    ∙ ap (λ w. replicate n (not stop) ++ w) (one_word o stop b bit)

-- ---- after the queue of a writer

module _ (may : Refusal → Type 0) (o : Order) (stop : Bool) where
  -- bits that are no stop bit after others
  pub others-behind : (a b n v : ℕ) (s t z : WriterState) → a + b ≡ n
      → ((o : Order) → word o b v ≡ replicate b (not stop)) → Appended (queue_sink may o) s (replicate a (not stop)) t
      → Appended (queue_sink may o) t (word o b v) z
      → Appended (queue_sink may o) s (replicate n (not stop)) z
  others-behind a b n v s t z sum is h k =
      rw (others-split stop a b n sum) (appended_more (queue_sink may o) s t z (replicate a (not stop))
      (replicate b (not stop)) h (subst (λ w. Appended (queue_sink may o) t w z) (is o) k))

  -- the write of some of them failed
  pub others-stop : (a b n v : ℕ) (x : Error) (s t z : WriterState) (r : Result (Unit {0}) Error) → a + b ≤ n
      → ((o : Order) → word o b v ≡ replicate b (not stop)) → IsErrAnd r (λ e. e ≡ x)
      → Appended (queue_sink may o) s (replicate a (not stop)) t → WriteRefused (queue_sink may o) t (word o b v) x z
      → Pushes may o (unary stop n) s r z
  others-stop a b n v x s t z (Ok done) le is e h f = absurd e
  others-stop a b n v x s t z (Err y) le is e h f =
      let rest = unary stop (n - a - b) in
      let split : unary stop n ≡ replicate a (not stop) ++ (replicate b (not stop) ++ rest) =
      unary-split stop a (n - a) n (omega arith) ∙ ap (λ w. replicate a (not stop)
      ++ w) (unary-split stop b (n - a - b) (n - a) (omega arith)) in
      rw (e, split) (WriteRefused-behind (queue_sink may o) s t z x (replicate a (not stop)) (replicate b (not stop)
      ++ rest) h
      (WriteRefused-longer (queue_sink may o) t z x (replicate b (not stop)) rest
      (subst (λ w. WriteRefused (queue_sink may o) t w x z) (is o) f)))

  -- the last part, with the stop bit
  pub lead-behind : (a b n v : ℕ) (s t z : WriterState) (r : Result (Unit {0}) Error) → a + b ≡ n → word o (b + 1) v
      ≡ unary stop b → Appended (queue_sink may o) s (replicate a (not stop)) t → Pushes may o (word o (b + 1) v) t r z
      → Pushes may o (unary stop n) s r z
  lead-behind a b n v s t z (Ok done) sum is h k =
      rw (unary-split stop a b n sum) (appended_more (queue_sink may o) s t z (replicate a (not stop)) (unary stop b) h
      (subst (λ w. Appended (queue_sink may o) t w z) is k))
  lead-behind a b n v s t z (Err x) sum is h k =
      rw (unary-split stop a b n sum) (WriteRefused-behind (queue_sink may o) s t z x (replicate a (not stop))
      (unary stop b) h (subst (λ w. WriteRefused (queue_sink may o) t w x z) is k))
