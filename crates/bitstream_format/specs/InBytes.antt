-- Numbers of whole bytes in a byte order of their own. The bits of each byte are in the order of the format.
use Rattle.std.proofs.Common.{◌≡◌, ◌∙◌, ℕ, zero, suc, ◌*◌, ◌%◌, ◌^◌, ◌<◌, ℤ, Bool, true, List, [], ◌∷◌, length, take, drop, ap, sym, subst, arith, length-take-le, length-drop}
use Rattle.std.specs.Prelude.{nat_lt}
use Rattle.std.specs.List.{All, AllByRecursion}
use Rattle.std.proofs.Math.Nat.{mod-eq_of_lt}
use Rattle.std.proofs.lemmas.Bool.{ltb-true}
use Rattle.std.proofs.lemmas.List.Elements.{All-from_recursion}
use Rattle.bitstream_number.specs.Word.{High, Low, bytes_of, residue, signed_from}
use Rattle.bitstream_order.specs.Parts.{value_bytes}
use Rattle.bitstream_number.proofs.ByteLemmas.{AreBytes-bytes, bytes_of-bits, bytes_of-number, length-bytes}
use Rattle.bitstream_number.proofs.SignedLemmas.{residue-lt, signed_from-residue}
use Rattle.bitstream_number.proofs.WordLemmas.{bits-bytes, length-word, number-lt, number-word}
use Rattle.bitstream_io.specs.Callers.{Decoder, Encoder, Order, FitsSignedBits, and_then, pure, bits, bytes, number, word, buffer, bytes_decoder}
use Rattle.bitstream_io.specs.ReadBack.{IsReadAs}
use Rattle.bitstream_io.proofs.CallsBack.{mapped-read}
use Rattle.bitstream_io.proofs.CallerLemmas.{IsWritten, RoundTrip, Packs, bytes-written, part-back}
use Rattle.bitstream_format.specs.AtomLaws.{bytes-goes, one-packs}

-- the read of n bytes in the order o, as an unsigned number in the byte order p
abbrev pub in_bytes_decoder : Order → Order → ℕ → Decoder ℕ
in_bytes_decoder o p n = and_then (bytes_decoder o n) (λ found. pure (number p (bits p found)))

-- as a signed number
abbrev pub signed_in_bytes_decoder : Order → Order → ℕ → Decoder ℤ
signed_in_bytes_decoder o p n = and_then (bytes_decoder o n) (λ found. pure (signed_from (8 * n) (number p (bits p found))))

-- the n bytes of an unsigned number in the byte order p, each in the order o
abbrev pub in_bytes_word : Order → Order → ℕ → ℕ → Encoder
in_bytes_word o p n v = buffer o (bytes p n v)

-- the n bytes of a signed number
abbrev pub signed_in_bytes_word : Order → Order → ℕ → ℤ → Encoder
signed_in_bytes_word o p n x = buffer o (bytes p n (residue (8 * n) x))

-- the unsigned number whose n bytes are these bits
abbrev pub in_bytes_number : Order → Order → ℕ → List Bool → ℕ
in_bytes_number o p n w = number p (bits p (bytes_of o n w))

-- the signed number whose n bytes are these bits
abbrev pub signed_in_bytes_number : Order → Order → ℕ → List Bool → ℤ
signed_in_bytes_number o p n w = signed_from (8 * n) (in_bytes_number o p n w)

-- the bytes with the bits of a number
bytes_of-word : (p : Order) (n v : ℕ) → bytes_of p n (word p (8 * n) v) ≡ bytes p n v
bytes_of-word p n v =
    ap (bytes_of p n) (sym (bits-bytes p n v)) ∙ ap (λ (k : ℕ). bytes_of p k (bits p (bytes p n v))) (sym (length-bytes p n v))
    ∙ bytes_of-bits p (bytes p n v) (AreBytes-bytes p n v)

-- n bytes have the lowest 8 n bits of a number
pub bytes-mod : (p : Order) (n v : ℕ) → bytes p n (v % 2 ^ (8 * n)) ≡ bytes p n v
bytes-mod p n v =
    ap (bytes p n) (sym (number-word p (8 * n) v))
    ∙ sym (bytes_of-number p n (word p (8 * n) v) (length-word p (8 * n) v)) ∙ bytes_of-word p n v

octets_of : (o : Order) (n : ℕ) (w : List Bool) → length w ≡ 8 * n → AllByRecursion (λ b. b < 256) (bytes_of o n w)
unfolding bytes_of
octets_of o zero w size = tt
octets_of o (suc n) w size =
    let first : length (take 8 w) ≡ 8 = length-take-le 8 w (omega (arith, size)) in (
      subst (λ (k : ℕ). number o (take 8 w) < 2 ^ k) first (number-lt o (take 8 w)),
      octets_of o n (drop 8 w) (omega (arith, size, length-drop 8 w)),
    )

-- the bytes of a number are below 256
pub octets : (p : Order) (n v : ℕ) → All (λ b. b < 256) (bytes p n v)
octets p n v =
    let w = word p (8 * n) v in
    let each = All-from_recursion (λ b. b < 256) (bytes_of p n w) (octets_of p n w (length-word p (8 * n) v)) in
    subst (λ (xs : List ℕ). All (λ b. b < 256) xs) (bytes_of-word p n v) each

-- the bytes of a number give the number back
pub number-again : (p : Order) (n v : ℕ) → v < 2 ^ (8 * n) → number p (bits p (bytes p n v)) ≡ v
number-again p n v fits = ap (number p) (bits-bytes p n v) ∙ number-word p (8 * n) v ∙ mod-eq_of_lt fits

pub signed-again : (p : Order) (n : ℕ) (x : ℤ) → nat_lt 0 (8 * n) ≡ true → FitsSignedBits (8 * n) x
    → signed_from (8 * n) (number p (bits p (bytes p n (residue (8 * n) x)))) ≡ x
signed-again p n x some fits =
    ap (signed_from (8 * n)) (number-again p n (residue (8 * n) x) (residue-lt (8 * n) x))
    ∙ signed_from-residue (8 * n) x (ltb-true 0 (8 * n) some) fits

module _ (o p : Order) (n : ℕ) where
  octets-read : (v : ℕ) → IsReadAs (buffer o (bytes p n v) ∷ []) (bytes_decoder o n) (bytes p n v)
  octets-read v = (bytes-goes o n (bytes p n v) (length-bytes p n v) (octets p n v)).back

  pub in_bytes-goes : (v : ℕ) → v < 2 ^ (8 * n) → RoundTrip (in_bytes_decoder o p n) (in_bytes_word o p n v ∷ []) v
  in_bytes-goes v fits =
      let writes = in_bytes_word o p n v ∷ [] in
      let read = mapped-read (λ (found : List ℕ). number p (bits p found)) writes (bytes_decoder o n) (bytes p n v) (octets-read v) in
      record { back = subst (IsReadAs writes (in_bytes_decoder o p n)) (number-again p n v fits) read }

  pub signed_in_bytes-goes : (x : ℤ) → nat_lt 0 (8 * n) ≡ true → FitsSignedBits (8 * n) x
      → RoundTrip (signed_in_bytes_decoder o p n) (signed_in_bytes_word o p n x ∷ []) x
  signed_in_bytes-goes x some fits =
      let writes = signed_in_bytes_word o p n x ∷ [] in
      let read = mapped-read (λ (found : List ℕ). signed_from (8 * n) (number p (bits p found))) writes (bytes_decoder o n)
      (bytes p n (residue (8 * n) x)) (octets-read (residue (8 * n) x)) in
      record { back = subst (IsReadAs writes (signed_in_bytes_decoder o p n)) (signed-again p n x some fits) read }

  -- the bytes of a number are accepted
  pub in_bytes-written : (v : ℕ) → IsWritten (in_bytes_word o p n v) (8 * n)
  in_bytes-written v = bytes-written o n (bytes p n v) (length-bytes p n v)

  pub in_bytes-packs : (v : ℕ) → Packs (in_bytes_word o p n v ∷ []) (8 * n)
  in_bytes-packs v = one-packs (in_bytes-written v)

  -- a number before other calls is read back
  pub in_bytes-back : {B : Type 0} (es : List Encoder) (b : B) (v : ℕ) (f : ℕ → Decoder B) → v < 2 ^ (8 * n)
      → RoundTrip (f v) es b → RoundTrip (and_then (in_bytes_decoder o p n) f) (in_bytes_word o p n v ∷ es) b
  in_bytes-back es b v f fits behind =
      part-back (in_bytes_decoder o p n) f (in_bytes_word o p n v ∷ []) es v b (in_bytes-goes v fits).back behind

-- the bytes of a value in the order p, if they are the number's bytes in both orders
pub value-bytes : {V : Type 0} (p : Order) (be_bytes le_bytes : V → List ℕ) (x : V) (n v : ℕ)
    → be_bytes x ≡ bytes High n v → le_bytes x ≡ bytes Low n v → value_bytes p be_bytes le_bytes x ≡ bytes p n v
value-bytes High be_bytes le_bytes x n v high low = high
value-bytes Low be_bytes le_bytes x n v high low = low
