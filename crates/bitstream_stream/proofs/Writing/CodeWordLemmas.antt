-- Code words, and bits that are written one by one.
use Rattle.std.proofs.Common.{◌≡◌, ℕ, zero, suc, ◌+◌, ◌-◌, ◌/◌, ◌%◌, ◌^◌, ◌<◌, ◌≤◌, ◌≢◌, Bool, true, false, List, [], ◌∷◌, ◌++◌, length, take, drop, Some, Result, Ok, Err, refl, sym, ap, ◌∙◌, subst, arith, append_assoc, inl, inr}
use Rattle.std.specs.Prelude.{◌==◌, slice_get}
use Rattle.std.proofs.lemmas.List.{map-append, take-append-drop, take_all, take_more}
use Rattle.std.proofs.lemmas.Option.{get_or_from_slice_get, slice_get_within}
use Rattle.bitstream_number.specs.Word.{Order, High, Low, digits, word}
use Rattle.bitstream_number.proofs.WordLemmas.{length-word}
use Rattle.bitstream_order.specs.Parts.{first_part, put_number}
use Rattle.bitstream_order.proofs.PartLemmas.{put_below, put_word}
use mir.Val.{bool_byte}
use Rattle.bitstream_count.specs.declared.error.Error.{Error}
use Rattle.bitstream_stream.specs.Writing.CodeWord.{code_bits}
use Rattle.bitstream_stream.specs.Writing.Sink.{Sink, Writes, WritesAll, Appended}
use Rattle.bitstream_stream.specs.Writing.WriteTable.{bit, bit_by_bit}
use Rattle.bitstream_stream.specs.declared.write.code_word.CodeWord.{CodeWord}
use Rattle.bitstream_stream.proofs.Writing.SinkParts.{from_ok, to_ok}
use Rattle.bitstream_stream.proofs.Writing.WriterLemmas.{one_word}
use Rattle.bitstream_stream.proofs.Writing.WriteParts.{all_append, all_err, all_one}

-- ---- the bits of a code word

pub code_bits-length : (w : CodeWord) → length (code_bits w) ≡ w.bits
code_bits-length w = length-word High w.bits w.high

pub code_bits-most : (w : CodeWord) → length (code_bits w) ≤ 63
code_bits-most w =
    let few = w.few in
    let size = code_bits-length w in
    omega (arith, few, size)

-- a bit after an encoding
bit-small : (b : Bool) (k : ℕ) → k ≡ bool_byte b → k < 2 ^ 1
bit-small true k is = omega (arith, is)
bit-small false k is = omega (arith, is)

pub pushed-word : (o : Order) (n v k r : ℕ) (b : Bool) → v < 2 ^ n → k ≡ bool_byte b → r ≡ put_number o v n k 1
    → word o (n + 1) r ≡ word o n v ++ b ∷ []
pushed-word o n v k r b below one put =
    ap (word o (n + 1)) put ∙ put_word o v n k 1 below (bit-small b k one)
    ∙ ap (λ (w : List Bool). word o n v ++ w) (one_word o b k one)

pub pushed-below : (o : Order) (n v k r : ℕ) (b : Bool) → v < 2 ^ n → k ≡ bool_byte b → r ≡ put_number o v n k 1
    → r < 2 ^ (n + 1)
pushed-below o n v k r b below one put =
    subst (λ (x : ℕ). x < 2 ^ (n + 1)) (sym put) (put_below o v n k 1 below (bit-small b k one))

-- the order in which the first bit of the byte 128 is 1, and the other one
pub order-high : (o : Order) (r : ℕ) → r ≡ first_part o 128 8 1 → r ≡ 1 → o ≡ High
order-high High r is one = refl
order-high Low r is one = absurd (omega (arith, is, one))

pub order-low : (o : Order) (r : ℕ) → r ≡ first_part o 128 8 1 → r ≢ 1 → o ≡ Low
order-low High r is other = absurd (other is)
order-low Low r is other = refl

module _ (w : CodeWord) where
  pub high-word : (o : Order) → o ≡ High → word o (length (code_bits w)) w.high ≡ code_bits w
  high-word o is =
      ap (λ (x : Order). word x (length (code_bits w)) w.high) is
      ∙ ap (λ (n : ℕ). word High n w.high) (code_bits-length w)

  pub low-word : (o : Order) → o ≡ Low → word o (length (code_bits w)) w.low ≡ code_bits w
  low-word o is =
      ap (λ (x : Order). word x (length (code_bits w)) w.low) is
      ∙ ap (λ (n : ℕ). word Low n w.low) (code_bits-length w) ∙ w.same

  pub high-small : w.high < 2 ^ length (code_bits w)
  high-small = subst (λ (n : ℕ). w.high < 2 ^ n) (sym (code_bits-length w)) w.small_high

  pub low-small : w.low < 2 ^ length (code_bits w)
  low-small = subst (λ (n : ℕ). w.low < 2 ^ n) (sym (code_bits-length w)) w.small_low

  pub empty-if : w.bits ≡ 0 → code_bits w ≡ []
  unfolding digits
  empty-if none = rw none refl

-- one bit of an encoding
digits-at : (n k v : ℕ) → k < n → slice_get (digits n v) k ≡ Some ((v / 2 ^ (n - 1 - k)) % 2 == 1)
unfolding digits
digits-at zero k v less = absurd (omega (arith, less))
digits-at (suc n) zero v less = let last : suc n - 1 - 0 ≡ n = omega arith in rw last refl
digits-at (suc n) (suc k) v less =
    let same : suc n - 1 - suc k ≡ n - 1 - k = omega arith in
    digits-at n k v (omega (arith, less)) ∙ ap (λ (i : ℕ). Some ((v / 2 ^ i) % 2 == 1)) (sym same)

pub bit-at : (w : CodeWord) (at : ℕ) (b : Bool) → at < length (code_bits w)
    → b ≡ ((w.high / 2 ^ (w.bits - 1 - at)) % 2 == 1) → slice_get (code_bits w) at ≡ Some b
bit-at w at b less is =
    let size = code_bits-length w in
    digits-at w.bits at w.high (omega (arith, less, size)) ∙ ap Some (sym is)

-- ---- lists, at one of their elements

module _ {A : Type 0} (xs : List A) (k : ℕ) (x : A) (at : slice_get xs k ≡ Some x) where
  pub take-next : take (k + 1) xs ≡ take k xs ++ x ∷ []
  take-next = take_more xs k x (slice_get_within xs k x at)
      ∙ ap (λ (y : A). take k xs ++ y ∷ []) (get_or_from_slice_get xs k x x at)

  pub split-at : xs ≡ take k xs ++ x ∷ drop (k + 1) xs
  split-at =
      sym (take-append-drop (k + 1) xs) ∙ ap (λ (l : List A). l ++ drop (k + 1) xs) take-next
      ∙ append_assoc (take k xs) (x ∷ []) (drop (k + 1) xs)

-- ---- bits that are written one by one

module _ {P : Type 0} (K : Sink P) (w : List Bool) (k : ℕ) (b : Bool) (s m t : P) (at : slice_get w k ≡ Some b)
    (h : WritesAll K (bit_by_bit (take k w)) s (Ok tt) m) where
  -- one bit more was written, or its error ended the call
  pub wrote-next : Writes {T = Unit {0}} K (bit b) m (Ok tt) t → WritesAll K (bit_by_bit (take (k + 1) w)) s (Ok tt) t
  wrote-next one =
      let calls : bit_by_bit (take (k + 1) w) ≡ bit_by_bit (take k w) ++ bit b ∷ [] =
      ap bit_by_bit (take-next w k b at) ∙ map-append bit (take k w) (b ∷ []) in
      subst (λ es. WritesAll K es s (Ok tt) t) (sym calls)
      (all_append K (bit_by_bit (take k w)) (bit b ∷ []) s m (Ok tt) t h (all_one K (bit b) m (Ok tt) t one))

  pub wrote-stop : (r : Result (Unit {0}) Error) (d : Error) → r ≡ Err d → Writes {T = Unit {0}} K (bit b) m (Err d) t
      → WritesAll K (bit_by_bit w) s r t
  wrote-stop r d is one =
      let rest = drop (k + 1) w in
      let calls : bit_by_bit w ≡ bit_by_bit (take k w) ++ bit b ∷ bit_by_bit rest =
      ap bit_by_bit (split-at w k b at) ∙ map-append bit (take k w) (b ∷ rest) in
      subst (λ es. WritesAll K es s r t) (sym calls)
      (all_append K (bit_by_bit (take k w)) (bit b ∷ bit_by_bit rest) s m r t h
      (all_err K (bit b) (bit_by_bit rest) m r d t is one))

-- all bits were written
pub wrote-all : {P : Type 0} (K : Sink P) (w : List Bool) (k : ℕ) (s t : P) → length w ≤ k
    → WritesAll K (bit_by_bit (take k w)) s (Ok tt) t → WritesAll K (bit_by_bit w) s (Ok tt) t
wrote-all K w k s t all h = subst (λ (x : List Bool). WritesAll K (bit_by_bit x) s (Ok tt) t) (take_all k w all) h

module _ {P : Type 0} (K : Sink P) where
  -- a state that differs from the last one by no bits
  last-same : (b : Bool) (s m t : P) → Writes {T = Unit {0}} K (bit b) s (Ok tt) m → Appended K m [] t
      → Writes {T = Unit {0}} K (bit b) s (Ok tt) t
  last-same b s m t one none =
      let begun = from_ok K (bit b) s (Ok tt) m tt (b ∷ []) one refl refl in
      let sound = begun.done.sound in
      to_ok K (bit b) s (Ok tt) t tt (b ∷ []) (record {
        was_sound = begun.was_sound;
        within = begun.within;
        done = record {
          grown = K.appends_trans s m t (b ∷ []) [] begun.done.grown none.grown;
          sound = none.sound;
          refusals = none.refusals ∙ begun.done.refusals;
          references = none.references ∙ begun.done.references;
        };
      }) refl refl

  pub wrote-same : (x : List Bool) (s m t : P) → 0 < length x → Appended K m [] t
      → WritesAll K (bit_by_bit x) s (Ok tt) m → WritesAll K (bit_by_bit x) s (Ok tt) t
  unfolding WritesAll
  wrote-same [] s m t some none h = absurd (omega (arith, some))
  wrote-same (b ∷ []) s m t some none (inl p) = let z = p.0 in cc
  wrote-same (b ∷ []) s m t some none (inr p) =
      let is : p.0 ≡ m = sym p.2.1 in
      inr (t, last-same b s p.0 t p.1 (subst (λ (n : P). Appended K n [] t) (sym is) none), (refl, refl))
  wrote-same (b ∷ c ∷ x) s m t some none (inl p) = let z = p.0 in cc
  wrote-same (b ∷ c ∷ x) s m t some none (inr p) =
      inr (p.0, p.1, wrote-same (c ∷ x) p.0 m t (omega arith) none p.2)
