-- Bytes up to a terminator: they are read back, and their length is known.
use Rattle.std.proofs.Common.{◌≡◌, ◌≢◌, ℕ, zero, suc, ◌<◌, ◌==◌, List, [], ◌∷◌, ◌++◌, length, append_assoc, append-nil, refl, arith}
use Rattle.std.specs.Prelude.{if◌then◌else◌}
use Rattle.std.specs.List.{AllByRecursion}
use Rattle.std.proofs.lemmas.List.Elements.{recursion_from_All}
use Rattle.std.proofs.lemmas.Bool.{eq-eqb, ne_eqb}
use Rattle.bitstream_count.specs.Codec.{stores}
use Rattle.bitstream_stream.specs.Reading.ReadTable.{unsigned_decoder}
use Rattle.bitstream_stream.specs.Writing.WriteTable.{unsigned}
use Rattle.bitstream_io.specs.Callers.{Decoder, Order, and_then, pure}
use Rattle.bitstream_io.proofs.CallerLemmas.{IsWritten, Packs, RoundTrip, packs-is, packs-more, packs-none, part-back, pure-back, unsigned-back, unsigned-written}
use Rattle.bitstream_format.specs.Until.{IsUnended, until_decoder, until_from, until_item, until_size, until_writes}

one_word : (o : Order) (x : ℕ) → unsigned o 16 8 x ≡ unsigned o 8 8 x
unfolding unsigned
one_word o x = refl

word-is : (o : Order) (stop x : ℕ) → x ≢ stop → unsigned o 16 8 (until_item stop x) ≡ unsigned o 8 8 x
word-is o stop x other = rw (ne_eqb x stop other) (one_word o x)

pub until_from-suc : (decoder : Decoder ℕ) (stop n : ℕ) (found : List ℕ) → until_from decoder stop (suc n) found
    ≡ and_then decoder (λ x. if x == stop then pure found
    else and_then (stores (found ++ x ∷ [])) (λ more. until_from decoder stop n more))
unfolding until_from
until_from-suc decoder stop n found = refl

module _ (o : Order) (stop : ℕ) (small : stop < 256) where
  from-back : (xs : List ℕ) → AllByRecursion (λ x. (x < 256) × (x ≢ stop)) xs → (n : ℕ) (found : List ℕ) → length xs < n
      → RoundTrip (until_from (unsigned_decoder o 8 8) stop n found) (until_writes o stop xs) (found ++ xs)
  from-back xs fits zero found less = absurd (omega (arith, less))
  from-back [] fits (suc n) found less =
      rw (until_from-suc (unsigned_decoder o 8 8) stop n found, append-nil found)
      (unsigned-back o 8 [] found 8 stop _ refl small (rw (eq-eqb stop stop refl) (pure-back found)))
  from-back (x ∷ xs) fits (suc n) found less =
      let rest : RoundTrip (until_from (unsigned_decoder o 8 8) stop n (found ++ x ∷ [])) (until_writes o stop xs) (found ++ x ∷ xs) =
      rw (← append_assoc found (x ∷ []) xs) (from-back xs fits.1 n (found ++ x ∷ []) (omega (arith, less))) in
      let next = part-back (stores (found ++ x ∷ [])) (λ more. until_from (unsigned_decoder o 8 8) stop n more) []
      (until_writes o stop xs) (found ++ x ∷ []) (found ++ x ∷ xs) (λ len p more. refl) rest in
      rw (until_from-suc (unsigned_decoder o 8 8) stop n found, word-is o stop x fits.0.1)
      (unsigned-back o 8 (until_writes o stop xs) (found ++ x ∷ xs) 8 x _ refl fits.0.0 (rw (ne_eqb x stop fits.0.1) next))

  pub until-back : (xs : List ℕ) → IsUnended stop xs → length xs < 4294967296
      → RoundTrip (until_decoder o stop) (until_writes o stop xs) xs
  until-back xs fits few = from-back xs (recursion_from_All _ xs fits) 4294967296 [] few

  packs-from : (xs : List ℕ) → AllByRecursion (λ x. (x < 256) × (x ≢ stop)) xs
      → Packs (until_writes o stop xs) (until_size xs)
  packs-from [] fits = packs-is (packs-more (unsigned-written o 8 8 stop refl small) packs-none) (omega arith)
  packs-from (x ∷ xs) fits =
      let one : IsWritten (unsigned o 16 8 (until_item stop x)) 8 =
      rw (ne_eqb x stop fits.0.1) (unsigned-written o 16 8 x refl fits.0.0) in
      packs-is (packs-more one (packs-from xs fits.1)) (omega arith)

  -- it is accepted, and has the stated number of bits
  pub until-packs : (xs : List ℕ) → IsUnended stop xs → Packs (until_writes o stop xs) (until_size xs)
  until-packs xs fits = packs-from xs (recursion_from_All _ xs fits)
