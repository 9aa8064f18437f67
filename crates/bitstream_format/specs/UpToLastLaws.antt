-- Parts up to the last one are read back.
use Rattle.std.proofs.Common.{◌≡◌, ℕ, zero, suc, ◌<◌, ◌≤◌, Bool, true, false, List, [], ◌∷◌, ◌++◌, length, append_assoc, Result, Ok, refl, sym, subst, arith}
use Rattle.std.specs.Prelude.{if◌then◌else◌, flat_map}
use Rattle.std.specs.List.{All, AllByRecursion}
use Rattle.std.proofs.lemmas.List.{length-append}
use Rattle.std.proofs.lemmas.List.Elements.{recursion_from_All}
use Rattle.bitstream_count.specs.Codec.{stores}
use Rattle.bitstream_io.specs.Callers.{Decoder, Encoder, and_then, pure, part_then}
use Rattle.bitstream_io.specs.ReadBack.{IsReadAs}
use Rattle.bitstream_io.proofs.CallerLemmas.{RoundTrip, part-back, pure-back}
use Rattle.bitstream_format.specs.UpToLast.{EndsOnce, up_to_last_decoder, up_to_last_from}

-- the reads of one part more
pub from-suc : {A E : Type 0} (e : Decoder (Result A E)) (last : A → Bool) (n : ℕ) (found : List A)
    → up_to_last_from e last (suc n) found ≡ and_then e (part_then (λ x. and_then (stores (found ++ x ∷ []))
    (λ more. if last x then pure (Ok more) else up_to_last_from e last n more)))
unfolding up_to_last_from
from-suc e last n found = refl

-- all of them
pub from-first : {A E : Type 0} (e : Decoder (Result A E)) (last : A → Bool)
    → up_to_last_from e last 4294967296 [] ≡ up_to_last_decoder e last
from-first e last = from-suc e last 4294967295 []

module _ {A E : Type 0} (e : Decoder (Result A E)) (writes : A → List Encoder) (last : A → Bool) where
  -- the part is read back
  abbrev IsBack : A → Type 0
  IsBack x = IsReadAs (writes x) e (Ok x)

  from-back : (before : List A) (end : A) → AllByRecursion (λ x. last x ≡ false) before → last end ≡ true
      → AllByRecursion IsBack (before ++ end ∷ []) → (n : ℕ) (found : List A) → length before < n
      → RoundTrip (up_to_last_from e last n found) (flat_map writes (before ++ end ∷ [])) (Ok (found ++ (before ++ end ∷ [])))
  from-back before end others ends back zero found less = absurd (omega (arith, less))
  from-back [] end others ends back (suc n) found less =
      let stored = part-back (stores (found ++ end ∷ [])) (λ more. if last end then pure (Ok more)
      else up_to_last_from e last n more) [] [] (found ++ end ∷ []) (Ok (found ++ end ∷ [])) (λ len p more. refl)
      (rw ends (pure-back (Ok (found ++ end ∷ [])))) in
      rw (from-suc e last n found) (part-back e _ (writes end) [] (Ok end) (Ok (found ++ end ∷ [])) back.0 stored)
  from-back (x ∷ before) end others ends back (suc n) found less =
      let rest : RoundTrip (up_to_last_from e last n (found ++ x ∷ [])) (flat_map writes (before ++ end ∷ []))
      (Ok (found ++ x ∷ (before ++ end ∷ []))) =
      rw (← append_assoc found (x ∷ []) (before ++ end ∷ []))
      (from-back before end others.1 ends back.1 n (found ++ x ∷ []) (omega (arith, less))) in
      let stored = part-back (stores (found ++ x ∷ [])) (λ more. if last x then pure (Ok more)
      else up_to_last_from e last n more) [] (flat_map writes (before ++ end ∷ [])) (found ++ x ∷ [])
      (Ok (found ++ x ∷ (before ++ end ∷ []))) (λ len p more. refl) (rw others.0 rest) in
      rw (from-suc e last n found)
      (part-back e _ (writes x) (flat_map writes (before ++ end ∷ [])) (Ok x) (Ok (found ++ x ∷ (before ++ end ∷ []))) back.0
      stored)

  few_before : (xs before : List A) (end : A) → xs ≡ before ++ end ∷ [] → length xs ≤ 4294967296 → length before < 4294967296
  few_before xs before end is few =
      let long = length-append before (end ∷ []) in
      let same : length xs ≡ length (before ++ end ∷ []) = subst (λ (ys : List A). length xs ≡ length ys) is refl in
      omega (arith, long, same, few)

  -- parts that end at their last one are read back
  pub up_to_last-back : (xs : List A) → EndsOnce last xs → length xs ≤ 4294967296 → All IsBack xs
      → RoundTrip (up_to_last_decoder e last) (flat_map writes xs) (Ok xs)
  up_to_last-back xs once few back =
      let each : All IsBack (once.before ++ once.end ∷ []) = subst (λ (ys : List A). All IsBack ys) once.whole back in
      subst (λ (d : Decoder (Result (List A) E)). RoundTrip d (flat_map writes xs) (Ok xs)) (from-first e last)
      (subst (λ (ys : List A). RoundTrip (up_to_last_from e last 4294967296 []) (flat_map writes ys) (Ok ys)) (sym once.whole)
      (from-back once.before once.end (recursion_from_All _ once.before once.others) once.ends
      (recursion_from_All _ (once.before ++ once.end ∷ []) each) 4294967296 []
      (few_before xs once.before once.end once.whole few)))
