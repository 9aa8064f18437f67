-- Blocks of bytes: they are read back, and their length is known.
use Rattle.std.proofs.Common.{◌≡◌, ℕ, zero, suc, ◌<◌, ◌==◌, List, [], ◌∷◌, ◌++◌, length, append_assoc, append-nil, refl, arith}
use Rattle.std.specs.Prelude.{if◌then◌else◌}
use Rattle.std.specs.List.{All, AllByRecursion}
use Rattle.std.proofs.lemmas.List.Elements.{recursion_from_All}
use Rattle.std.proofs.lemmas.Bool.{ne_eqb}
use Rattle.bitstream_count.specs.Codec.{stores}
use Rattle.bitstream_stream.specs.Reading.ReadTable.{unsigned_decoder, vec_decoder}
use Rattle.bitstream_io.specs.Callers.{Order, and_then, buffer, pure}
use Rattle.bitstream_io.proofs.CallerLemmas.{Packs, RoundTrip, bytes-written, packs-is, packs-more, packs-none, part-back, pure-back, unsigned-back, unsigned-written, vec-back}
use Rattle.bitstream_format.specs.Blocks.{IsBlock, block_size, blocks_decoder, blocks_from, blocks_size, blocks_writes}

size-is : (count : ℕ) → 0 < count → block_size count ≡ count
size-is count some = rw (ne_eqb count 0 (λ none. omega (arith, some, none))) refl

pub blocks_from-suc : (o : Order) (n : ℕ) (found : List (List ℕ)) → blocks_from o (suc n) found
    ≡ and_then (unsigned_decoder o 64 8) (λ size. if size == 0 then pure found
    else and_then (vec_decoder o size) (λ bytes. and_then (stores (found ++ bytes ∷ [])) (λ more. blocks_from o n more)))
unfolding blocks_from
blocks_from-suc o n found = refl

module _ (o : Order) where
  from-back : (xs : List (List ℕ)) → AllByRecursion IsBlock xs → (n : ℕ) (found : List (List ℕ)) → length xs < n
      → RoundTrip (blocks_from o n found) (blocks_writes o xs) (found ++ xs)
  from-back xs fits zero found less = absurd (omega (arith, less))
  from-back [] fits (suc n) found less =
      rw (blocks_from-suc o n found, append-nil found)
      (unsigned-back o 8 [] found 64 0 _ refl (omega arith) (pure-back found))
  from-back (x ∷ xs) fits (suc n) found less =
      let rest : RoundTrip (blocks_from o n (found ++ x ∷ [])) (blocks_writes o xs) (found ++ x ∷ xs) =
      rw (← append_assoc found (x ∷ []) xs) (from-back xs fits.1 n (found ++ x ∷ []) (omega (arith, less))) in
      let next = part-back (stores (found ++ x ∷ [])) (λ more. blocks_from o n more) [] (blocks_writes o xs) (found ++ x ∷ [])
      (found ++ x ∷ xs) (λ len p more. refl) rest in
      let bytes = vec-back (blocks_writes o xs) (found ++ x ∷ xs) o (length x) x
      (λ bytes. and_then (stores (found ++ bytes ∷ [])) (λ more. blocks_from o n more)) refl fits.0.fits next in
      let few = fits.0.few in
      rw (blocks_from-suc o n found, size-is (length x) fits.0.some)
      (unsigned-back o 8 (buffer o x ∷ blocks_writes o xs) (found ++ x ∷ xs) 64 (length x) _ refl few
      (rw (ne_eqb (length x) 0 (λ none. let some = fits.0.some in omega (arith, some, none))) bytes))

  pub blocks-back : (xs : List (List ℕ)) → All IsBlock xs → length xs < 4294967296
      → RoundTrip (blocks_decoder o) (blocks_writes o xs) xs
  blocks-back xs fits few = from-back xs (recursion_from_All _ xs fits) 4294967296 [] few

  packs-from : (xs : List (List ℕ)) → AllByRecursion IsBlock xs → Packs (blocks_writes o xs) (blocks_size xs)
  packs-from [] fits = packs-is (packs-more (unsigned-written o 64 8 0 refl (omega arith)) packs-none) (omega arith)
  packs-from (x ∷ xs) fits =
      let few = fits.0.few in
      rw (size-is (length x) fits.0.some)
      (packs-is (packs-more (unsigned-written o 64 8 (length x) refl few) (packs-more (bytes-written o (length x) x refl)
      (packs-from xs fits.1))) (omega arith))

  -- it is accepted, and has the stated number of bits
  pub blocks-packs : (xs : List (List ℕ)) → All IsBlock xs → Packs (blocks_writes o xs) (blocks_size xs)
  blocks-packs xs fits = packs-from xs (recursion_from_All _ xs fits)
