-- Numbers that are taken from bytes in memory.
use Rattle.std.proofs.Common.{◌≡◌, ℕ, ◌+◌, ◌-◌, ◌*◌, ◌/◌, ◌^◌, ◌<◌, ◌≤◌, List, ◌++◌, length, take, drop, sym, ap, ap₂, ◌∙◌, subst, arith, take-append-drop, inl, inr}
use Rattle.std.proofs.lemmas.Bool.{cases_lt}
use Rattle.std.proofs.Math.Nat.{pow-le-pow_right}
use Rattle.std.proofs.lemmas.List.{length-take-le, take_all, length-drop, drop-take, drop-drop, take-append-le}
use Rattle.std.proofs.Math.Seq.{take-add}
use Rattle.bitstream_number.specs.Word.{Order, word, bits}
use Rattle.bitstream_number.proofs.WordLemmas.{length-bits, bits-append}
use Rattle.bitstream_order.specs.Parts.{piece, put_number}
use Rattle.bitstream_order.proofs.PartLemmas.{put_word, put_below}
use Rattle.bitstream_order.proofs.Moving.PieceLemmas.{take_less}
use Rattle.bitstream_order.proofs.Moving.SendLemmas.{piece_below}
use Rattle.bitstream_stream.specs.Reading.Memory.{rest_bits}
use Rattle.bitstream_stream.specs.Reading.MemoryTakes.{GoesOn, TakesNumber}
use Rattle.bitstream_stream.specs.declared.read.slice_reader.SliceReader.{SliceReader}
use Rattle.bitstream_stream.proofs.Reading.MemoryWindows.{bits-drop, middle_word}

-- some bits by a window of eight bytes
windowed : (o : Order) (bytes : List ℕ) (bit n w : ℕ) → bit + n ≤ 8 * length (take 8 bytes) → bit + n ≤ 64
    → take (8 * length (take 8 bytes)) (word o 64 w) ≡ bits o (take 8 bytes)
    → take n (rest_bits o bytes bit) ≡ word o n (piece o 64 w bit n)
windowed o bytes bit n w there few window =
    let prefix = bits o (take 8 bytes) in
    let size : length prefix ≡ 8 * length (take 8 bytes) = length-bits o (take 8 bytes) in
    let parts : bits o bytes ≡ prefix ++ bits o (drop 8 bytes) =
    ap (bits o) (sym (take-append-drop 8 bytes)) ∙ bits-append o (take 8 bytes) (drop 8 bytes) in
    let whole : take (bit + n) (bits o bytes) ≡ take (bit + n) (word o 64 w) =
    ap (take (bit + n)) parts ∙ take-append-le (bit + n) prefix (bits o (drop 8 bytes)) (omega (arith, size))
    ∙ ap (take (bit + n)) (sym window)
    ∙ take_less (bit + n) (8 * length (take 8 bytes)) (word o 64 w)
    (omega (arith, ap (λ l. length l) window, size)) in
    sym (drop-take bit n (bits o bytes)) ∙ ap (drop bit) whole ∙ middle_word o 64 w bit n few

enough_in_eight : (bytes : List ℕ) (m : ℕ) → m ≤ 64 → m ≤ 8 * length bytes → m ≤ 8 * length (take 8 bytes)
enough_in_eight bytes m few there = elim (cases_lt 8 (length bytes)) [
  | inl more ↦ let size = length-take-le 8 bytes (omega arith) in omega (arith, size)
  | inr le ↦ let size = ap (λ l. length l) (take_all 8 bytes le) in omega (arith, size)
]

pub few_taken : {E : Type 0} (o : Order) (n w v : ℕ) (old new : SliceReader E) → n ≤ 56
    → take (8 * length (take 8 old.bytes.now)) (word o 64 w) ≡ bits o (take 8 old.bytes.now)
    → v ≡ piece o 64 w old.bit n → GoesOn n old new → TakesNumber o n v old new
few_taken o n w v old new few window is goes =
    let there = enough_in_eight old.bytes.now (old.bit + n) (omega (arith, old.few, few)) goes.enough in
    record {
      goes = goes;
      word = windowed o old.bytes.now old.bit n w there (omega (arith, old.few, few)) window ∙ ap (word o n) (sym is);
      below = rw is (piece_below o 64 w old.bit n);
    }

-- ---- one number and then another

-- the bits left after n bits
pub rest_on : {E : Type 0} (o : Order) (n : ℕ) (old new : SliceReader E) → GoesOn n old new
    → drop n (rest_bits o old.bytes.now old.bit) ≡ rest_bits o new.bytes.now new.bit
rest_on o n old new h =
    let done = (old.bit + n) / 8 in
    let enough = h.enough in
    let b = bits o old.bytes.now in
    let sum : 8 * done + new.bit ≡ old.bit + n = omega (arith, h.bit) in
    drop-drop n old.bit b ∙ ap (λ k. drop k b) (sym sum) ∙ sym (drop-drop new.bit (8 * done) b)
    ∙ ap (drop new.bit) (sym (bits-drop o done old.bytes.now (omega (arith, enough))) ∙ ap (bits o) (sym h.bytes))

pub goes_further : {E : Type 0} (n m : ℕ) (a b c : SliceReader E) → GoesOn n a b → GoesOn m b c → GoesOn (n + m) a c
goes_further n m a b c h k =
    let left : length b.bytes.now ≡ length a.bytes.now - (a.bit + n) / 8 =
    ap (λ l. length l) h.bytes ∙ length-drop ((a.bit + n) / 8) a.bytes.now in
    let one = h.enough in
    let two = k.enough in
    let bit = h.bit in
    let sum : (a.bit + n) / 8 + (b.bit + m) / 8 ≡ (a.bit + (n + m)) / 8 = omega (arith, bit) in
    record {
      enough = omega (arith, left, one, two, bit);
      all = k.all ∙ h.all;
      bytes = k.bytes ∙ ap (drop ((b.bit + m) / 8)) h.bytes ∙ drop-drop ((b.bit + m) / 8) ((a.bit + n) / 8) a.bytes.now
          ∙ ap (λ j. drop j a.bytes.now) sum;
      bit = k.bit ∙ omega (arith, bit);
      failed = k.failed ∙ h.failed;
      refusals = k.refusals ∙ h.refusals;
    }

pub two_taken : {E : Type 0} (o : Order) (n m v u : ℕ) (a b c : SliceReader E) → TakesNumber o n v a b
    → TakesNumber o m u b c → TakesNumber o (n + m) (put_number o v n u m) a c
two_taken o n m v u a b c h k = record {
  goes = goes_further n m a b c h.goes k.goes;
  word =
      take-add n m (rest_bits o a.bytes.now a.bit)
      ∙ ap₂ (λ x y. x ++ take m y) h.word (rest_on o n a b h.goes) ∙ ap (λ y. word o n v ++ y) k.word
      ∙ sym (put_word o v n u m h.below k.below);
  below = put_below o v n u m h.below k.below;
}

-- the same number
pub taken_as : {E : Type 0} (o : Order) (n m v u : ℕ) (a b : SliceReader E) → n ≡ m → u ≡ v → TakesNumber o n v a b
    → TakesNumber o m u a b
taken_as o n m v u a b size same h =
    subst (λ k. TakesNumber o k u a b) size (subst (λ x. TakesNumber o n x a b) (sym same) h)

-- a number of n bits fits where n bits do
pub fits_in : (n size v : ℕ) → n ≤ size → v < 2 ^ n → v < 2 ^ size
fits_in n size v le below = let top : 2 ^ n ≤ 2 ^ size = pow-le-pow_right (omega arith) le in omega (arith, below, top)

-- a number by its first bits
pub fetched : {E : Type 0} (o : Order) (n w v : ℕ) (old new : SliceReader E) → old.bit + n ≤ 64
    → take (old.bit + n) (word o 64 w) ≡ take (old.bit + n) (bits o old.bytes.now)
    → v ≡ piece o 64 w old.bit n → GoesOn n old new → TakesNumber o n v old new
fetched o n w v old new few agree is goes = record {
  goes = goes;
  word =
      sym (drop-take old.bit n (bits o old.bytes.now)) ∙ ap (drop old.bit) (sym agree)
      ∙ middle_word o 64 w old.bit n few ∙ ap (word o n) (sym is);
  below = rw is (piece_below o 64 w old.bit n);
}
