-- What is written is read back: the read of a value finds the value in the encoding that its write made.
-- A caller's proof is `search (round_trip, FACTS)`, where the facts say that the values fit their widths.
use Rattle.std.proofs.Common.{◌≡◌, ℕ, ℤ, ◌+◌, ◌^◌, ◌<◌, ◌≤◌, Bool, true, List, [], ◌∷◌, ◌++◌, length, Ok, refl, ◌∙◌, arith}
use Rattle.std.proofs.Math.Nat.{mod-eq_of_lt}
use Rattle.std.specs.Prelude.{nat_le}
use Rattle.std.proofs.lemmas.Bool.{le-leb, ne_eqb}
use Rattle.std.proofs.lemmas.Bool.Decides.{nat_tests}
use Rattle.bitstream_count.specs.Codec.{Decoder, Encoder, Done, and_then, pure}
use Rattle.bitstream_number.specs.Word.{Order, number, word, signed_number, signed_word, FitsSignedBits}
use Rattle.bitstream_number.proofs.SignedLemmas.{signed_number-signed_word}
use Rattle.bitstream_number.proofs.WordLemmas.{length-word, number-word}
use Rattle.bitstream_stream.specs.Reading.ReadTable.{first_bit, bit_decoder, unsigned_decoder, signed_decoder}
use Rattle.bitstream_stream.specs.Sequence.{write_sequence}
use Rattle.bitstream_stream.specs.Writing.WriteTable.{bit, unsigned, signed}
use Rattle.bitstream_stream.proofs.Reading.CodecLemmas.{word_prefix-some}
use Rattle.bitstream_stream.proofs.Reading.ReadsLemmas.{and_then_decides}
use Rattle.bitstream_stream.proofs.Writing.WriteLemmas.{unsigned-fits, signed-accepts}
use Rattle.bitstream_value.proofs.SureLemmas.{IsWord, unsigned-word}

-- wherever these calls write, the call e reads a from what they wrote, and takes just that
pub record RoundTrip {A : Type 0} (e : Decoder A) (es : List Encoder) (a : A) : Type 0 where
  pub back : (len p : ℕ) (more : List Bool) → e.reads p (write_sequence es len ++ more)
      ≡ Done (length (write_sequence es len)) (Ok a)

pub signed-word : (o : Order) (size n : ℕ) → 1 ≤ n → n ≤ size
    → IsWord (signed_decoder o size n) n (λ w. Ok (signed_number o w))
unfolding signed_decoder
signed-word o size n some le = record { reads = λ p b. rw (ne_eqb n 0 (λ e. omega arith), le-leb n size le) refl }

-- a call that takes an encoding, and one that writes it, and those after them
pub word-back : {A B : Type 0} (e : Decoder A) (n : ℕ) (g : List Bool → A) (x : Encoder) (w : List Bool)
    (a : A) (f : A → Decoder B) (es : List Encoder) (b : B)
    → IsWord e n (λ v. Ok (g v)) → ((len : ℕ) → x len ≡ Ok w) → length w ≡ n → g w ≡ a → RoundTrip (f a) es b
    → RoundTrip (and_then e f) (x ∷ es) b
word-back e n g x w a f es b is writes size answer k = record {
  back = λ len p more.
      let first : (m : List Bool) → e.reads p (w ++ m) ≡ Done (length w) (Ok a) = λ m. is.reads p (w ++ m)
      ∙ word_prefix-some n (λ v. Ok (g v)) w m size ∙ rw (size, answer) refl in
      rw (writes len) (and_then_decides e f p (p + length w) w (write_sequence es (len + length w)) a (Ok b) first refl
      (k.back (len + length w) (p + length w)) more);
}

module _ {B : Type 0} (o : Order) (n : ℕ) (es : List Encoder) (b : B) where
  pub unsigned-back : (size v : ℕ) (f : ℕ → Decoder B) → nat_le n size ≡ true → v < 2 ^ n → RoundTrip (f v) es b
      → RoundTrip (and_then (unsigned_decoder o size n) f) (unsigned o size n v ∷ es) b
  unsigned-back size v f le fits k =
      let within : n ≤ size = grind (arith, nat_tests) in
      word-back (unsigned_decoder o size n) n (number o) (unsigned o size n v) (word o n v) v f es b
      (unsigned-word o size n within) (λ len. unsigned-fits o size n v len within fits) (length-word o n v)
      (number-word o n v ∙ mod-eq_of_lt fits) k

  pub signed-back : (size : ℕ) (x : ℤ) (f : ℤ → Decoder B) → nat_le 1 n ≡ true → nat_le n size ≡ true
      → FitsSignedBits n x → RoundTrip (f x) es b → RoundTrip (and_then (signed_decoder o size n) f) (signed o size n x ∷ es) b
  signed-back size x f some le fits k =
      let more : 1 ≤ n = grind (arith, nat_tests) in
      let within : n ≤ size = grind (arith, nat_tests) in
      word-back (signed_decoder o size n) n (signed_number o) (signed o size n x) (signed_word o n x) x f es b
      (signed-word o size n more within) (λ len. signed-accepts o size n x len more (within, fits))
      (length-word o n _)
      (signed_number-signed_word o n x more fits) k

pub bit-word : IsWord bit_decoder 1 (λ w. Ok (first_bit w))
bit-word = record { reads = λ p b. refl }

pub bit-back : {B : Type 0} (c : Bool) (f : Bool → Decoder B) (es : List Encoder) (b : B) → RoundTrip (f c) es b
    → RoundTrip (and_then bit_decoder f) (bit c ∷ es) b
bit-back c f es b k = word-back bit_decoder 1 first_bit (bit c) (c ∷ []) c f es b bit-word (λ len. refl) refl refl k

pub pure-back : {A : Type 0} (a : A) → RoundTrip (pure a) [] a
pure-back a = record { back = λ len p more. refl }

pub ruleset round_trip = (unsigned-back, signed-back, bit-back, pure-back)
