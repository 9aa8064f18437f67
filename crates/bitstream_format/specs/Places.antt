-- Formats of a fixed width. They have a second law: each field is at its place among the bits. If the bits are there, the read
-- returns the fields at their places; else it is incomplete. In the `do` block, write `place` for `field`.
use Rattle.std.proofs.Common.{◌≡◌, ◌∙◌, ℕ, ◌+◌, ◌*◌, ◌≤◌, ◌<◌, Bool, true, ℤ, List, length, take, drop, Ok, Err, refl, ap, arith}
use Rattle.std.specs.Prelude.{nat_le, map}
use Rattle.std.proofs.Math.Seq.{drop-append_seam, take-append_seam}
use Rattle.std.proofs.lemmas.Bool.{leb-true, le-leb, lt-leb}
use Rattle.bitstream_count.specs.Codec.{Prefix, Incomplete, Done, and_then, prefix_then, advance, word_prefix}
use Rattle.bitstream_stream.specs.Reading.ReadTable.{bytes_decoder, skip_decoder}
use Rattle.bitstream_stream.proofs.Reading.CodecLemmas.{and_then_takes}
use Rattle.bitstream_value.proofs.BackLemmas.{signed-word, bit-word}
use Rattle.bitstream_value.proofs.SureLemmas.{items-word}
use Rattle.bitstream_io.specs.Callers.{Decoder, Order, first_bit, number, signed_number, bytes_of, words, pure}
use Rattle.bitstream_io.proofs.CallerLemmas.{IsWord, unsigned-word}
use Rattle.bitstream_format.specs.Format.{Plain, Parts, AllOf, join, done as end, field, format}
use Rattle.bitstream_format.specs.Atoms as atom
use Rattle.bitstream_format.specs.Lists.{array as array_of}

-- ---- laws

prefix-same : {A B : Type 0} (x : Prefix A) (f h : ℕ → A → Prefix B) → ((n : ℕ) (a : A) → f n a ≡ h n a)
    → prefix_then x f ≡ prefix_then x h
prefix-same Incomplete f h same = refl
prefix-same (Done n (Ok a)) f h same = ap (advance n) (same n a)
prefix-same (Done n (Err d)) f h same = refl

-- the bits of one number and then of another are the bits of one number
pub then-word : {A B : Type 0} (e : Decoder A) (f : A → Decoder B) (m n : ℕ) (g : List Bool → A) (h : A → List Bool → B)
    → IsWord e m (λ w. Ok (g w)) → ((a : A) → IsWord (f a) n (λ w. Ok (h a w)))
    → IsWord (and_then e f) (m + n) (λ w. Ok (h (g (take m w)) (drop m w)))
unfolding and_then
then-word e f m n g h first others = record {
  reads = λ p b.
      let both = and_then_takes m n g (λ a w. Ok (h a w)) (λ w. Ok (h (g (take m w)) (drop m w)))
      (λ u v lu lv. rw (← lu, take-append_seam u v, drop-append_seam u v) refl) in
      rw (first.reads p b)
      (prefix-same (word_prefix m (λ w. Ok (g w)) b) _ _ (λ k a. (others a).reads (p + k) (drop k b)) ∙ both.reads p b);
}

pub none-word : {A : Type 0} (a : A) → IsWord (pure a) 0 (λ w. Ok a)
none-word a = record { reads = λ p b. rw (le-leb 0 (length b) (omega arith)) refl }

pub bytes-word : (o : Order) (n : ℕ) → IsWord (bytes_decoder o n) (8 * n) (λ w. Ok (bytes_of o n w))
unfolding bytes_decoder
bytes-word o n = record { reads = λ p b. refl }

pub skip-word : (n : ℕ) → IsWord (skip_decoder n) n (λ w. Ok tt)
unfolding skip_decoder
skip-word n = record { reads = λ p b. refl }

-- ---- formats of a fixed width

-- a format of n bits, and the value that n bits encode
pub record Fixed (n : ℕ) (A : Type 0) : Type 1 where
  pub format : Plain A
  pub at : Order → List Bool → A
  pub is_word : (o : Order) → IsWord (format.read o) n (λ w. Ok (at o w))

-- one part of n bits of a value of S
pub record FixedPart (S A : Type 0) (n : ℕ) : Type 1 where
  pub of : Fixed n A
  pub get : S → A

-- parts of n bits up to the end of the value
pub record FixedParts (S : Type 0) (n : ℕ) : Type 1 where
  pub parts : Parts S S (λ s. s)
  pub at : Order → List Bool → S
  pub is_word : (o : Order) → IsWord (parts.read o) n (λ w. Ok (at o w))

infixl 10 ◌>>=◌
-- one part and then the parts after it, as a line of a `do` block
abbrev pub ◌>>=◌ : {S A : Type 0} {m n : ℕ} → FixedPart S A m → (A → FixedParts S n) → FixedParts S (m + n)
◌>>=◌ {m = m} {n = n} p k = record {
  parts = join (field p.of.format p.get) (λ a. (k a).parts);
  at = λ o w. (k (p.of.at o (take m w))).at o (drop m w);
  is_word = λ o.
      then-word (p.of.format.read o) (λ a. (k a).parts.read o) m n (p.of.at o) (λ a. (k a).at o) (p.of.is_word o)
      (λ a. (k a).is_word o);
}

-- a field, at the place after those before it
abbrev pub place : {S A : Type 0} {n : ℕ} → Fixed n A → (S → A) → FixedPart S A n
place F get = record { of = F; get = get }

-- the end of the parts, and the value that they make
abbrev pub done : {S : Type 0} → S → FixedParts S 0
done all = record { parts = end all; at = λ o w. all; is_word = λ o. none-word all }

-- parts as a format: what they make of a value that was written is that value
abbrev pub fixed : {S : Type 0} {n : ℕ} (p : FixedParts S n) → ((s : S) → AllOf (p.parts.made s)) → Fixed n S
fixed p made = record { format = format p.parts made; at = p.at; is_word = p.is_word }

-- ---- of one call

-- a flag of one bit
abbrev pub bool : Fixed 1 Bool
bool = record { format = atom.bool; at = λ o w. first_bit w; is_word = λ o. bit-word }

-- an unsigned number of n bits, in a type of `size` bits
abbrev pub unsigned : (size n : ℕ) → nat_le n size ≡ true → Fixed n ℕ
unsigned size n le = record {
  format = atom.unsigned size n le;
  at = λ o w. number o w;
  is_word = λ o. unsigned-word o size n (leb-true n size le);
}

-- a signed number of n bits, in a type of `size` bits
abbrev pub signed : (size n : ℕ) → nat_le 1 n ≡ true → nat_le n size ≡ true → Fixed n ℤ
signed size n some le = record {
  format = atom.signed size n some le;
  at = λ o w. signed_number o w;
  is_word = λ o. signed-word o size n (leb-true 1 n some) (leb-true n size le);
}

-- n bytes
abbrev pub bytes : (n : ℕ) → Fixed (8 * n) (List ℕ)
bytes n = record { format = atom.bytes n; at = λ o w. bytes_of o n w; is_word = λ o. bytes-word o n }

-- n bits without a meaning
abbrev pub pad : (n : ℕ) → Fixed n (Unit {0})
pad n = record { format = atom.pad n; at = λ o w. tt; is_word = λ o. skip-word n }

-- k items
abbrev pub array : {A : Type 0} {n : ℕ} (k : ℕ) → Fixed n A → Fixed (k * n) (List A)
array {n = n} k F = record {
  format = array_of k F.format;
  at = λ o w. map (F.at o) (words n k w);
  is_word = λ o. items-word (F.is_word o) k;
}

-- ---- the second law

module _ {A : Type 0} {n : ℕ} (F : Fixed n A) where
  -- if n bits are there, the read takes only them, and returns the fields at their places
  abbrev pub ThereLaw : Type 0
  ThereLaw = (o : Order) (p : ℕ) (bits : List Bool) → n ≤ length bits
      → (F.format.read o).reads p bits ≡ Done n (Ok (F.at o (take n bits)))

  -- if fewer are left, the read is incomplete
  abbrev pub ShortLaw : Type 0
  ShortLaw = (o : Order) (p : ℕ) (bits : List Bool) → length bits < n → (F.format.read o).reads p bits ≡ Incomplete

  pub there_law : ThereLaw
  there_law o p bits le = (F.is_word o).reads p bits ∙ rw (le-leb n (length bits) le) refl

  pub short_law : ShortLaw
  short_law o p bits less = (F.is_word o).reads p bits ∙ rw (lt-leb n (length bits) less) refl
