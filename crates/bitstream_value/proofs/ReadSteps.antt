-- Reads one after another, as the proof of a caller goes through them: `search (reads, FACTS)`, where the
-- facts are the clauses of the calls; and `search few_reads` where a function makes up to four calls.
use borrow.Author.Rules.{sfits_of}
use Rattle.std.specs.Prelude.{nat_le, if◌then◌else◌, ◌==◌}
use Rattle.std.proofs.Common.{◌≡◌, ℕ, ℤ, SFits, to_z, of_z, Continue, Break, ◌+◌, ◌-◌, ◌*◌, ◌<◌, ◌≤◌, Bool, true, List, length, take, drop, Option, Some, Result, Ok, Err, refl, subst, ap, ◌∙◌, arith, inl, inr, length-drop}
use Rattle.std.proofs.lemmas.Bool.{le-leb, leb-true, lt-leb, cases_lt}
use Rattle.std.proofs.lemmas.List.{drop-drop}
use Rattle.std.proofs.lemmas.Int.{to_z-of_z}
use Rattle.bitstream_order.specs.Reference.{Reference}
use Rattle.std.specs.Int.{Width, w8, w16, w32, w64, w128}
use Rattle.std.specs.Result.{IsErrAnd, result_from_control_flow}
use Rattle.std.specs.declared.ops.ControlFlow.{ControlFlow}
use Rattle.bitstream_count.specs.declared.error.Error.{Error}
use Rattle.bitstream_count.specs.declared.error.Error.TheVariants.{EndOfInput}
use Rattle.bitstream_count.specs.Codec.{Decoder, Incomplete, Done, and_then, pure}
use Rattle.bitstream_number.specs.Word.{Order, number, signed_number, bits}
use Rattle.bitstream_number.proofs.WordLemmas.{length-bits}
use Rattle.bitstream_order.specs.Refusal.{TrueEnds}
use Rattle.bitstream_stream.specs.Reading.Reader.{new_reader_state}
use Rattle.bitstream_stream.specs.Reading.Reads.{BitSource, Reads, sure_answer}
use Rattle.bitstream_stream.specs.Reading.ReadTable.{first_bit, bit_decoder, unsigned_decoder, signed_decoder}
use Rattle.bitstream_stream.proofs.Reading.CodecLemmas.{and_then-ok, and_then-none}
use Rattle.bitstream_stream.proofs.Reading.ReadsLemmas.{Reads-and_then-ok, Reads-pure, exit}
use Rattle.bitstream_stream.proofs.Reading.SliceLemmas.{new_answer}
use Rattle.bitstream_value.specs.NonZero.{non_zero_decoder, if_any, option_decoder}
use Rattle.bitstream_value.specs.Boolean.{truth_decoder}
use Rattle.bitstream_value.proofs.BackLemmas.{bit-word, signed-word}
use Rattle.bitstream_value.proofs.SureLemmas.{IsWord, unsigned-word, truth-word, non_zero-word, option-word}

-- ---- what a function did that read

-- the machine's integers of the given number of bits
abbrev pub width_of : ℕ → Width
width_of size = if size == 8 then w8 else if size == 16 then w16 else if size == 32 then w32 else if size == 64 then w64
    else w128

-- a read whose result a `?` checked, and what follows it, or the end; a proof's record has these facts
module _ {R A B : Type 0} {K : BitSource R} {e : Decoder A} (f : A → Decoder B) {r : Result B Error}
    {s t : R} {answer : Result A Error} {flow : ControlFlow _ A} where
  pub then_read : {z : R} {a : A} → Reads K e s answer t → answer ≡ result_from_control_flow flow → flow ≡ Continue a
      → Reads K (f a) t r z → Reads K (and_then e f) s r z
  then_read h p q k = Reads-and_then-ok e f (subst (λ x. Reads K e s x t) (p ∙ ap result_from_control_flow q) h) k

  pub end_read : {x : _} → Reads K e s answer t → answer ≡ result_from_control_flow flow → flow ≡ Break x
      → IsErrAnd r (λ y. y ≡ x.0) → Reads K (and_then e f) s r t
  end_read h p q k = exit f r k (subst (λ x. Reads K e s x t) (p ∙ ap result_from_control_flow q) h)

-- a number of a signed type, which after the read is what its bits encode
module _ {R B : Type 0} {K : BitSource R} (o : Order) (size n : ℕ) (f : ℤ → Decoder B) {r : Result B Error}
    {s t z : R} {x : ℤ} where
  pub next_signed_read : Reads K (signed_decoder o size n) s (Ok x) t → SFits (width_of size) x
      → Reads K (f (to_z (width_of size) (of_z (width_of size) x))) t r z
      → Reads K (and_then (signed_decoder o size n) f) s r z
  next_signed_read h fits k = Reads-and_then-ok _ f h (subst (λ y. Reads K (f y) t r z) (to_z-of_z _ x fits) k)

  pub then_signed_read : {answer : Result ℤ Error} {flow : ControlFlow _ ℤ} → Reads K (signed_decoder o size n) s answer t
      → answer ≡ result_from_control_flow flow → flow ≡ Continue x → SFits (width_of size) x
      → Reads K (f (to_z (width_of size) (of_z (width_of size) x))) t r z
      → Reads K (and_then (signed_decoder o size n) f) s r z
  then_signed_read h p q fits k = then_read f h p q (subst (λ y. Reads K (f y) t r z) (to_z-of_z _ x fits) k)

-- each read that returned a value, up to one whose error a `?` returned, or to the end: by the clauses
-- of the calls, which are listed; and by the fields of a proof's record, where the calls are few
pub ruleset reads = (next_signed_read, Reads-and_then-ok, exit, Reads-pure, sfits_of)

pub ruleset few_reads = (then_signed_read, then_read, end_read, Reads-pure, sfits_of)

-- ---- what the reads of fields find in bits that are all known

-- asked after k of the bits b, the call takes n more and returns r, or they are too few for it
pub record Finds {A : Type 0} (b : List Bool) (k : ℕ) (e : Decoder A) (n : ℕ) (r : Result A Error) : Type 0 where
  pub there : (p : ℕ) → k + n ≤ length b → e.reads p (drop k b) ≡ Done n r
  pub short : (p : ℕ) → k ≤ length b → length b < k + n → e.reads p (drop k b) ≡ Incomplete

word-finds : {A : Type 0} (b : List Bool) (k n : ℕ) (e : Decoder A) (g : List Bool → Result A Error) → IsWord e n g
    → Finds b k e n (g (take n (drop k b)))
word-finds b k n e g word = record {
  there = λ p enough. rw (
    word.reads p (drop k b),
    le-leb n (length (drop k b)) (let l = length-drop k b in
        omega arith),
  ) refl;
  short = λ p some few. rw (
    word.reads p (drop k b),
    lt-leb n (length (drop k b)) (let l = length-drop k b in
        omega arith),
  ) refl;
}

-- a call that is found, and what follows it
pub and_then-finds : {A B : Type 0} (b : List Bool) (k n m : ℕ) (e : Decoder A) (f : A → Decoder B) (a : A)
    (r : Result B Error) → Finds b k e n (Ok a) → Finds b (k + n) (f a) m r → Finds b k (and_then e f) (n + m) r
and_then-finds b k n m e f a r h t = record {
  there = λ p enough. and_then-ok e f p (drop k b) n a (h.there p (omega arith))
      ∙ rw (drop-drop n k b, t.there (p + n) (omega arith)) refl;
  short = λ p some few. elim (cases_lt (length b) (k + n)) [
    | inl less ↦ and_then-none e f p (drop k b) (h.short p some less)
    | inr enough ↦ and_then-ok e f p (drop k b) n a (h.there p enough)
        ∙ rw (drop-drop n k b, t.short (p + n) enough (omega arith)) refl
  ];
}

-- one field that is an encoding, and those after it, of l bits in all
pub next-finds : {A B : Type 0} (b : List Bool) (k n l : ℕ) (e : Decoder A) (f : A → Decoder B) (g : List Bool
    → A) (r : Result B Error) → IsWord e n (λ w. Ok (g w)) → nat_le n l ≡ true
    → Finds b (k + n) (f (g (take n (drop k b)))) (l - n) r
    → Finds b k (and_then e f) l r
next-finds b k n l e f g r word le t =
    let sum : n + (l - n) ≡ l = let h = leb-true n l le in omega arith in
    subst (λ m. Finds b k (and_then e f) m r) sum (and_then-finds b k n (l - n) e f (g (take n (drop k b))) r
    (word-finds b k n e (λ w. Ok (g w)) word) t)

module _ {B : Type 0} (b : List Bool) (k n l : ℕ) (r : Result B Error) where
  pub unsigned-finds : (o : Order) (size : ℕ) (f : ℕ → Decoder B) → nat_le n size ≡ true → nat_le n l ≡ true
      → Finds b (k + n) (f (number o (take n (drop k b)))) (l - n) r → Finds b k (and_then (unsigned_decoder o size n) f) l r
  unsigned-finds o size f fits le t = next-finds b k n l (unsigned_decoder o size n) f (number o) r
      (unsigned-word o size n (leb-true n size fits)) le t

  pub signed-finds : (o : Order) (size : ℕ) (f : ℤ → Decoder B) → nat_le 1 n ≡ true → nat_le n size ≡ true
      → nat_le n l ≡ true → Finds b (k + n) (f (signed_number o (take n (drop k b)))) (l - n) r
      → Finds b k (and_then (signed_decoder o size n) f) l r
  signed-finds o size f some fits le t = next-finds b k n l (signed_decoder o size n) f (signed_number o) r
      (signed-word o size n (leb-true 1 n some) (leb-true n size fits)) le t

  pub non_zero-finds : {A : Type 0} (after : ℕ → A) (o : Order) (size : ℕ) (f : A → Decoder B) → nat_le (n + 1) size
      ≡ true → nat_le n l ≡ true → Finds b (k + n) (f (after (number o (take n (drop k b))))) (l - n) r
      → Finds b k (and_then (non_zero_decoder after o size n) f) l r
  non_zero-finds after o size f fits le t =
      next-finds b k n l (non_zero_decoder after o size n) f (λ w. after (number o w)) r
      (non_zero-word after o size n (let less = leb-true (n + 1) size fits in omega arith)) le t

  pub option-finds : {A : Type 0} (after : ℕ → A) (o : Order) (size : ℕ) (f : Option A → Decoder B) → nat_le n size
      ≡ true → nat_le n l ≡ true → Finds b (k + n) (f (if_any after (number o (take n (drop k b))))) (l - n) r
      → Finds b k (and_then (option_decoder after o size n) f) l r
  option-finds after o size f fits le t =
      next-finds b k n l (option_decoder after o size n) f (λ w. if_any after (number o w)) r
      (option-word after o size n (leb-true n size fits)) le t

module _ {B : Type 0} (b : List Bool) (k l : ℕ) (r : Result B Error) (f : Bool → Decoder B) where
  pub bit-finds : nat_le 1 l ≡ true → Finds b (k + 1) (f (first_bit (take 1 (drop k b)))) (l - 1) r
      → Finds b k (and_then bit_decoder f) l r
  bit-finds le t = next-finds b k 1 l bit_decoder f first_bit r bit-word le t

  pub truth-finds : nat_le 1 l ≡ true → Finds b (k + 1) (f (first_bit (take 1 (drop k b)))) (l - 1) r
      → Finds b k (and_then (truth_decoder 1) f) l r
  truth-finds le t = next-finds b k 1 l (truth_decoder 1) f first_bit r truth-word le t

-- the end of the fields
pub pure-finds : {A : Type 0} (b : List Bool) (k : ℕ) (a : A) → Finds b k (pure a) 0 (Ok a)
pure-finds b k a = record { there = λ p enough. refl; short = λ p some few. absurd (omega arith) }

pub ruleset finds = (unsigned-finds, signed-finds, non_zero-finds, option-finds, bit-finds, truth-finds, pure-finds)

-- ---- what a new reader returns then, over a stream that fails only at the end of input

module _ {R A : Type 0} {K : BitSource R} {e : Decoder A} {s t : R} {n : ℕ} {xs : List ℕ}
    {x r : Result A Error} {known : Option (List ℕ)} {references : List Reference} where
  -- the bits are there
  pub fields_there : TrueEnds K.may → K.state s ≡ new_reader_state known references → known ≡ Some xs
      → Reads K e s r t → Finds (bits K.order xs) 0 e n x → n ≤ 8 * length xs → r ≡ x
  fields_there ends new told h found enough =
      let le : 0 + n ≤ length (bits K.order xs) = let len = length-bits K.order xs in omega arith in
      new_answer ends xs references (new ∙ ap (λ z. new_reader_state z references) told) h
      ∙ ap sure_answer (found.there 0 le)

  -- they are not
  pub fields_short : TrueEnds K.may → K.state s ≡ new_reader_state known references → known ≡ Some xs
      → Reads K e s r t → Finds (bits K.order xs) 0 e n x → 8 * length xs < n → r ≡ Err EndOfInput
  fields_short ends new told h found few =
      let less : length (bits K.order xs) < 0 + n = let len = length-bits K.order xs in omega arith in
      new_answer ends xs references (new ∙ ap (λ z. new_reader_state z references) told) h
      ∙ ap sure_answer (found.short 0 (omega arith) less)
