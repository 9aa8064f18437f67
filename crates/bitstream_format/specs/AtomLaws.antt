-- The laws of single calls: a value that fits is read back from what its write appends, and that has the stated length.
use Rattle.std.proofs.Common.{◌≡◌, ◌∙◌, ℕ, ◌-◌, ◌^◌, ◌<◌, Bool, true, ℤ, List, [], ◌∷◌, length, Option, arith, subst, inl, ap}
use Rattle.std.specs.Prelude.{nat_le, nat_lt}
use Rattle.std.specs.List.{All}
use Rattle.std.proofs.lemmas.Bool.{leb-true}
use Rattle.std.proofs.lemmas.Bool.Decides.{nat_tests}
use Rattle.bitstream_io.specs.Callers.{Encoder, Order, FitsSignedBits, bit_decoder, unsigned_decoder, signed_decoder, bytes_decoder, unary_decoder, skip_decoder, option_decoder, if_any, non_zero, bit, unsigned, signed, unary_word, buffer, zeros, vbr, signed_vbr}
use Rattle.bitstream_stream.specs.Reading.ReadTable.{groups_decoder, signed_groups_decoder}
use Rattle.bitstream_value.specs.NonZero.{non_zero_decoder}
use Rattle.bitstream_io.specs.ReadBack.{IsReadAs}
use Rattle.bitstream_io.proofs.CallsBack.{bit-read, unsigned-read, signed-read, bytes-read, skip-read, unary-read, non_zero-read, option-read, groups-read, signed_groups-read, value_in-fits}
use Rattle.bitstream_io.proofs.CallerLemmas.{RoundTrip, Packs, packs-none, packs-more, packs-is, IsWritten}

pub one-packs : {e : Encoder} {n : ℕ} → IsWritten e n → Packs (e ∷ []) n
one-packs is = packs-is (packs-more is packs-none) (omega arith)

pub bool-goes : (b : Bool) → RoundTrip bit_decoder (bit b ∷ []) b
bool-goes b = record { back = bit-read b }

pub unsigned-goes : (o : Order) (size n v : ℕ) → nat_le n size ≡ true → v < 2 ^ n
    → RoundTrip (unsigned_decoder o size n) (unsigned o size n v ∷ []) v
unsigned-goes o size n v le fits =
    let h = unsigned-read o size n v (leb-true n size le) (inl fits) in
    record { back = subst (IsReadAs (unsigned o size n v ∷ []) (unsigned_decoder o size n)) (value_in-fits n v fits) h }

pub signed-goes : (o : Order) (size n : ℕ) (x : ℤ) → nat_le 1 n ≡ true → nat_le n size ≡ true → FitsSignedBits n x
    → RoundTrip (signed_decoder o size n) (signed o size n x ∷ []) x
signed-goes o size n x some le fits =
    record { back = signed-read o size n x (leb-true 1 n some) (leb-true n size le) fits }

pub bytes-goes : (o : Order) (n : ℕ) (xs : List ℕ) → length xs ≡ n → All (λ b. b < 256) xs
    → RoundTrip (bytes_decoder o n) (buffer o xs ∷ []) xs
bytes-goes o n xs is fit =
    subst (λ (k : ℕ). RoundTrip (bytes_decoder o k) (buffer o xs ∷ []) xs) is (record { back = bytes-read o xs fit })

pub skip-goes : (n : ℕ) → RoundTrip (skip_decoder n) (zeros n ∷ []) tt
skip-goes n = record { back = skip-read n }

pub unary-goes : (stop : Bool) (k : ℕ) → k < 2 ^ 32 → RoundTrip (unary_decoder stop) (unary_word stop k ∷ []) k
unary-goes stop k small = record { back = unary-read stop k small }

module _ (strict : Bool) (o : Order) (field size : ℕ) (wide : nat_le 2 field ≡ true) (some : nat_le 1 size ≡ true) where
  few : 0 < size
  few = grind (arith, nat_tests)

  pub vbr-goes : (v : ℕ) → v < 2 ^ size → RoundTrip (groups_decoder strict o field size (2 ^ size)) (vbr o field v ∷ []) v
  vbr-goes v fits =
      record { back = groups-read strict o field size (2 ^ size) v (leb-true 2 field wide) few (omega arith) fits }

  pub signed_vbr-goes : (x : ℤ) → FitsSignedBits size x
      → RoundTrip (signed_groups_decoder strict o field size) (signed_vbr o field x ∷ []) x
  signed_vbr-goes x fits =
      record { back = signed_groups-read strict o field size x (leb-true 2 field wide) few fits }

module _ {A : Type 0} (after : ℕ → A) (o : Order) (size n v : ℕ) where
  pub non_zero-goes : (x : A) → nat_lt n size ≡ true → v - 1 < 2 ^ n → after (v - 1) ≡ x
      → RoundTrip (non_zero_decoder after o size n) (non_zero o size n v ∷ []) x
  non_zero-goes x less fits again =
      let within : n < size = grind (arith, nat_tests) in
      let value = ap after (value_in-fits n (v - 1) fits) ∙ again in
      record {
        back = subst (IsReadAs (non_zero o size n v ∷ []) (non_zero_decoder after o size n)) value
            (non_zero-read after o size n v within (inl fits));
      }

  pub option-goes : (x : Option A) → nat_le n size ≡ true → v < 2 ^ n → if_any after v ≡ x
      → RoundTrip (option_decoder after o size n) (unsigned o size n v ∷ []) x
  option-goes x le fits again =
      let value = ap (if_any after) (value_in-fits n v fits) ∙ again in
      record {
        back = subst (IsReadAs (unsigned o size n v ∷ []) (option_decoder after o size n)) value
            (option-read after o size n v (leb-true n size le) (inl fits));
      }
