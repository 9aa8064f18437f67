-- Numbers of whole bytes in a byte order of their own: what the reads in code return, and the numbers among known bits.
use Rattle.std.proofs.Common.{◌≡◌, ◌∙◌, ℕ, ◌+◌, ◌-◌, ◌*◌, ◌%◌, ◌^◌, ◌<◌, Bool, true, ℤ, List, [], ◌∷◌, Result, Ok, Err, take, drop, refl, ap, sym, subst}
use Rattle.std.specs.Prelude.{nat_le, nat_lt}
use Rattle.std.specs.Result.{IsErrAnd}
use Rattle.bitstream_number.specs.Word.{residue, signed_from}
use Rattle.bitstream_stream.specs.Reading.ReadTable.{bytes_decoder}
use Rattle.bitstream_stream.specs.Reading.Reads.{BitSource}
use Rattle.bitstream_stream.specs.Writing.Sink.{Sink}
use Rattle.bitstream_value.proofs.ReadSteps.{next-finds}
use Rattle.bitstream_value.proofs.SureLemmas.{mapped-word}
use Rattle.bitstream_io.specs.Callers.{Decoder, Error, Order, FitsSignedBits, Reads, WritesAll, and_then, buffer, bits, bytes, bytes_of, number, result_map}
use Rattle.bitstream_io.proofs.ReadsLemmas.{map_err}
use Rattle.bitstream_io.proofs.CallerLemmas.{Finds, IsWord, Reads-and_then-ok, Reads-pure}
use Rattle.bitstream_format.specs.InBytes.{in_bytes_decoder, in_bytes_number, in_bytes_word, signed_in_bytes_decoder, signed_in_bytes_number, bytes-mod, number-again, signed-again}

module _ {R : Type 0} {K : BitSource R} (o p : Order) (n : ℕ) {s t : R} {xs : List ℕ} where
  -- the bytes of a number were read
  pub in_bytes-read : (v : ℕ) → Reads K (bytes_decoder o n) s (Ok xs) t → xs ≡ bytes p n v → v < 2 ^ (8 * n)
      → Reads K (in_bytes_decoder o p n) s (Ok v) t
  in_bytes-read v read are fits =
      subst (λ (x : ℕ). Reads K (in_bytes_decoder o p n) s (Ok x) t) (ap (λ (ys : List ℕ). number p (bits p ys)) are ∙ number-again p n v fits)
      (Reads-and_then-ok _ _ read (Reads-pure _ t))

  pub signed_in_bytes-read : (x : ℤ) → Reads K (bytes_decoder o n) s (Ok xs) t → xs ≡ bytes p n (residue (8 * n) x)
      → nat_lt 0 (8 * n) ≡ true → FitsSignedBits (8 * n) x → Reads K (signed_in_bytes_decoder o p n) s (Ok x) t
  signed_in_bytes-read x read are some fits =
      subst (λ (x : ℤ). Reads K (signed_in_bytes_decoder o p n) s (Ok x) t)
      (ap (λ (ys : List ℕ). signed_from (8 * n) (number p (bits p ys))) are ∙ signed-again p n x some fits)
      (Reads-and_then-ok _ _ read (Reads-pure _ t))

-- a read whose error is returned, as a result with another view of its value
pub read-stops : {R A B : Type 0} {K : BitSource R} (view : A → B) (e : Decoder B) (r : Result A Error) {x : Error} {s t : R}
    → IsErrAnd r (λ y. y ≡ x) → Reads K e s (Err x) t → Reads K e s (result_map view r) t
read-stops {K = K} view e r {x = x} {s = s} {t = t} is read =
    subst (λ (u : Result _ Error). Reads K e s u t) (sym (map_err view r is)) read

-- the lowest bits of a number were written
pub low_bytes-written : {S : Type 0} (K : Sink S) (o p : Order) (n v : ℕ) (s t : S) (x : Result (Unit {0}) Error)
    → WritesAll K (in_bytes_word o p n (v % 2 ^ (8 * n)) ∷ []) s x t → WritesAll K (in_bytes_word o p n v ∷ []) s x t
low_bytes-written K o p n v s t x wrote =
    subst (λ (ys : List ℕ). WritesAll K (buffer o ys ∷ []) s x t) (bytes-mod p n v) wrote

bytes-word : (o : Order) (n : ℕ) → IsWord (bytes_decoder o n) (8 * n) (λ w. Ok (bytes_of o n w))
unfolding bytes_decoder
bytes-word o n = record { reads = λ p b. refl }

-- a number among known bits
module _ {B : Type 0} (b : List Bool) (k l : ℕ) (r : Result B Error) (n : ℕ) (o p : Order) where
  pub in_bytes-finds : (f : ℕ → Decoder B) → nat_le (8 * n) l ≡ true
      → Finds b (k + 8 * n) (f (in_bytes_number o p n (take (8 * n) (drop k b)))) (l - 8 * n) r
      → Finds b k (and_then (in_bytes_decoder o p n) f) l r
  in_bytes-finds f le found =
      next-finds b k (8 * n) l (in_bytes_decoder o p n) f (in_bytes_number o p n) r
      (mapped-word (bytes_decoder o n) (8 * n) (λ w. bytes_of o n w) (λ (found : List ℕ). number p (bits p found)) (bytes-word o n))
      le found

  pub signed_in_bytes-finds : (f : ℤ → Decoder B) → nat_le (8 * n) l ≡ true
      → Finds b (k + 8 * n) (f (signed_in_bytes_number o p n (take (8 * n) (drop k b)))) (l - 8 * n) r
      → Finds b k (and_then (signed_in_bytes_decoder o p n) f) l r
  signed_in_bytes-finds f le found =
      next-finds b k (8 * n) l (signed_in_bytes_decoder o p n) f (signed_in_bytes_number o p n) r
      (mapped-word (bytes_decoder o n) (8 * n) (λ w. bytes_of o n w)
      (λ (found : List ℕ). signed_from (8 * n) (number p (bits p found))) (bytes-word o n)) le found
