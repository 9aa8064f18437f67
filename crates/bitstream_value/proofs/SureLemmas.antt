-- Values that are an encoding of a known number of bits, and what is returned if all bits left are known.
use Rattle.std.specs.Prelude.{Bool, map}
use Rattle.std.proofs.Common.{◌≡◌, ℕ, zero, suc, ◌+◌, ◌*◌, ◌<◌, ◌≤◌, List, [], ◌∷◌, ◌++◌, length, take, drop, Some, Result, Ok, Err, refl, sym, ap, ◌∙◌, arith, length-drop}
use Rattle.std.proofs.Math.Seq.{take-length}
use Rattle.std.proofs.lemmas.Bool.{le-leb, lt-leb, lt-ltb}
use Rattle.std.proofs.lemmas.List.{drop-append-le, drop-take, take-take, map-append, nil_from_length, take-append-le}
use Rattle.bitstream_order.specs.Reference.{Reference}
use Rattle.bitstream_count.specs.declared.error.Error.{Error}
use Rattle.bitstream_count.specs.declared.error.Error.TheVariants.{EndOfInput}
use Rattle.bitstream_count.specs.Codec.{Decoder, Prefix, Incomplete, Done, word_prefix, prefix_then, advance, and_then, pure}
use Rattle.bitstream_number.specs.Word.{Order, number, bits}
use Rattle.bitstream_number.proofs.WordLemmas.{length-bits}
use Rattle.bitstream_order.specs.Refusal.{TrueEnds}
use Rattle.bitstream_stream.specs.Reading.ReadTable.{first_bit, unsigned_decoder}
use Rattle.bitstream_stream.specs.Reading.Reader.{new_reader_state}
use Rattle.bitstream_stream.specs.Reading.Reads.{BitSource, Reads}
use Rattle.bitstream_stream.proofs.Reading.CodecLemmas.{and_then_takes, map_takes}
use Rattle.bitstream_stream.proofs.Reading.SliceLemmas.{new_answer}
use Rattle.bitstream_stream.proofs.Reading.TableLemmas.{unsigned-takes}
use Rattle.bitstream_value.specs.Array.{items_decoder, words}
use Rattle.bitstream_value.specs.NonZero.{non_zero_decoder, if_any, option_decoder}
use Rattle.bitstream_value.specs.Boolean.{truth_decoder}

-- a call that takes an encoding of n bits, and returns g of it
pub record IsWord {A : Type 0} (e : Decoder A) (n : ℕ) (g : List Bool → Result A Error) : Type 0 where
  pub reads : (p : ℕ) (b : List Bool) → e.reads p b ≡ word_prefix n g b

-- ---- which calls do

pub unsigned-word : (o : Order) (size n : ℕ) → n ≤ size → IsWord (unsigned_decoder o size n) n (λ w. Ok (number o w))
unsigned-word o size n le = rw (unsigned-takes o size n le) (record { reads = λ p b. refl })

pub truth-word : IsWord (truth_decoder 1) 1 (λ w. Ok (first_bit w))
unfolding truth_decoder
truth-word = record { reads = λ p b. refl }

-- an encoding whose number is then changed
pub mapped-word : {A B : Type 0} (e : Decoder A) (n : ℕ) (g : List Bool → A) (f : A → B) → IsWord e n (λ w. Ok (g w))
    → IsWord (and_then e (λ a. pure (f a))) n (λ w. Ok (f (g w)))
unfolding and_then
mapped-word e n g f h = record {
  reads = λ p b. rw (h.reads p b)
      ((map_takes n g f (λ w. Ok (f (g w))) (λ w _. refl)).reads p b);
}

pub non_zero-word : {A : Type 0} (after : ℕ → A) (o : Order) (size n : ℕ) → n < size
    → IsWord (non_zero_decoder after o size n) n (λ w. Ok (after (number o w)))
unfolding non_zero_decoder
non_zero-word after o size n less = rw (lt-ltb n size less)
    (mapped-word (unsigned_decoder o size n) n (number o) after (unsigned-word o size n (omega arith)))

pub option-word : {A : Type 0} (after : ℕ → A) (o : Order) (size n : ℕ) → n ≤ size
    → IsWord (option_decoder after o size n) n (λ w. Ok (if_any after (number o w)))
unfolding option_decoder
option-word after o size n le = mapped-word (unsigned_decoder o size n) n (number o) (if_any after)
    (unsigned-word o size n le)

-- ---- items

whole : {A : Type 0} (n : ℕ) (l : List A) → length l ≡ n → take n l ≡ l
whole n l len = ap (λ k. take k l) (sym len) ∙ take-length l

-- one encoding more
words-more : (n k : ℕ) (u v : List Bool) → length u ≡ k * n → length v ≡ n → words n (suc k) (u ++ v) ≡ words n k u
    ++ v ∷ []
words-more n zero u v lu lv = rw (nil_from_length u (omega arith)) (ap (λ w. w ∷ []) (whole n v lv))
words-more n (suc k) u v lu lv =
    let le : n ≤ length u = omega arith in
    let len : length (drop n u) ≡ k * n = let l = length-drop n u in omega arith in
    rw (take-append-le n u v le, drop-append-le n u v le) (ap (λ l. take n u ∷ l) (words-more n k (drop n u) v len lv))

-- the encodings of the bits that they are in
words-take : (n k : ℕ) (b : List Bool) → words n k (take (k * n) b) ≡ words n k b
words-take n zero b = refl
words-take n (suc k) b =
    let size : suc k * n ≡ n + k * n = omega arith in
    let first : take n (take (suc k * n) b) ≡ take n b = take-take n (suc k * n) b (omega arith) in
    let rest : drop n (take (suc k * n) b) ≡ take (k * n) (drop n b) = ap (λ m. drop n (take m b)) size
    ∙ drop-take n (k * n) b in
    rw (first, rest) (ap (λ l. take n b ∷ l) (words-take n k (drop n b)))

prefix-same : {A B : Type 0} (x : Prefix A) (f h : ℕ → A → Prefix B) → ((n : ℕ) (a : A) → f n a ≡ h n a) → prefix_then x f
    ≡ prefix_then x h
prefix-same Incomplete f h same = refl
prefix-same (Done n (Ok a)) f h same = ap (advance n) (same n a)
prefix-same (Done n (Err d)) f h same = refl

-- k items, each of which is an encoding, are one encoding
pub items-word : {A : Type 0} {e : Decoder A} {n : ℕ} {g : List Bool → A} → IsWord e n (λ w. Ok (g w)) → (k : ℕ)
    → IsWord (items_decoder e k) (k * n) (λ w. Ok (map g (words n k w)))
unfolding items_decoder and_then
items-word {n = n} h zero = record {
  reads = λ p b. let none : zero * n ≡ 0 = omega arith in
      rw (none, le-leb 0 (length b) (omega arith)) refl;
}
items-word {e = e} {n = n} {g = g} h (suc k) = record {
  reads = λ p b.
      let item : (m : ℕ) (items : _) → (and_then e (λ x. pure (items ++ x ∷ []))).reads (p + m) (drop m b)
      ≡ word_prefix n (λ w. Ok (items ++ g w ∷ [])) (drop m b) =
      λ m items. (mapped-word e n g (λ x. items ++ x ∷ []) h).reads (p + m) (drop m b) in
      let both = and_then_takes (k * n) n (λ w. map g (words n k w)) (λ items w. Ok (items ++ g w ∷ []))
      (λ w. Ok (map g (words n (suc k) w)))
      (λ u v lu lv. ap Ok (ap (map g) (words-more n k u v lu lv) ∙ map-append g (words n k u) (v ∷ []))) in
      let size : suc k * n ≡ k * n + n = omega arith in
      rw ((items-word h k).reads p b, size)
      (prefix-same (word_prefix (k * n) (λ w. Ok (map g (words n k w))) b) _ _ item ∙ both.reads p b);
}

-- ---- what a new reader returns, over a stream that fails only at the end of input

module _ {R A : Type 0} {K : BitSource R} {e : Decoder A} {n : ℕ} {g : List Bool → Result A Error}
    {r : Result A Error} {s t : R} {xs : List ℕ} {references : List Reference} where
  -- the bits are there
  pub word_there : IsWord e n g → TrueEnds K.may → K.state s ≡ new_reader_state (Some xs) references
      → Reads K e s r t → n ≤ 8 * length xs → r ≡ g (take n (bits K.order xs))
  word_there word ends new h enough =
      let le : n ≤ length (bits K.order xs) = let len = length-bits K.order xs in omega arith in
      new_answer ends xs references new h ∙ rw (
        word.reads 0 (bits K.order xs),
        le-leb n (length (bits K.order xs)) le,
      ) refl

  -- they are not
  pub word_short : IsWord e n g → TrueEnds K.may → K.state s ≡ new_reader_state (Some xs) references
      → Reads K e s r t → 8 * length xs < n → r ≡ Err EndOfInput
  word_short word ends new h few =
      let less : length (bits K.order xs) < n = let len = length-bits K.order xs in omega arith in
      new_answer ends xs references new h ∙ rw (
        word.reads 0 (bits K.order xs),
        lt-leb n (length (bits K.order xs)) less,
      ) refl

-- the items are there
pub items_there : {R A : Type 0} {K : BitSource R} {e : Decoder A} {n : ℕ} {g : List Bool → A}
    {r : Result (List A) Error} {s t : R} {xs : List ℕ} {references : List Reference}
    → IsWord e n (λ w. Ok (g w)) → (k : ℕ) → TrueEnds K.may → K.state s ≡ new_reader_state (Some xs) references
    → Reads K (items_decoder e k) s r t → k * n ≤ 8 * length xs → r ≡ Ok (map g (words n k (bits K.order xs)))
items_there {K = K} {n = n} {g = g} {xs = xs} word k ends new h enough =
    word_there (items-word word k) ends new h enough ∙ ap (λ l. Ok (map g l)) (words-take n k (bits K.order xs))
