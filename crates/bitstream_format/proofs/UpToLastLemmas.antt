-- Parts up to the last one: what the loop in code returns.
use Rattle.std.proofs.Common.{◌≡◌, ℕ, suc, ◌+◌, ◌-◌, ◌<◌, Bool, true, false, List, [], ◌∷◌, ◌++◌, Result, Ok, Err, refl, sym, subst, arith}
use Rattle.std.specs.Prelude.{if◌then◌else◌}
use Rattle.bitstream_count.specs.declared.error.Error.{Error}
use Rattle.bitstream_count.specs.declared.error.Error.TheVariants.{RunTooLong, OutOfMemory, Failed}
use Rattle.bitstream_count.specs.Codec.{fail, stores}
use Rattle.bitstream_stream.specs.Reading.Reads.{BitSource, was_done, failed_reader}
use Rattle.bitstream_stream.proofs.Reading.ReadsLemmas.{Reads-pure, Reads-same, Took-nil, Took-too_long, none_needed, ok_prefix}
use Rattle.bitstream_value.specs.Grows.{GrowingOutcome, by_reads, in_a_read, between_reads}
use Rattle.bitstream_value.specs.Own.{OwnAnswer}
use Rattle.bitstream_value.proofs.GrowsLemmas.{growth-here, go_grown, stop_grown, grown_end, part_go, part_stop}
use Rattle.bitstream_io.specs.Callers.{Decoder, GrowsOwn, and_then, pure}
use Rattle.bitstream_format.specs.UpToLast.{up_to_last_decoder, up_to_last_from}
use Rattle.bitstream_format.specs.UpToLastLaws.{from-first, from-suc}

-- the parts so far, none of them the last: what the reads after them return is what all reads return
pub record UpToLastSoFar {R A E : Type 0} (K : BitSource R) (becomes : Error → E → Type 0) (e : Decoder (Result A E))
    (last : A → Bool) (count : ℕ) (start : R) (found : List A) (reader : R) : Type 0 where
  pub fine : 0 < count → (K.state reader).failed ≡ false
  pub same : (r : Result (List A) E) (end : R)
      → GrowsOwn K becomes (up_to_last_from e last (4294967296 - count) found) reader r end
      → GrowsOwn K becomes (up_to_last_decoder e last) start r end

still_fine : {R A : Type 0} {K : BitSource R} {e : Decoder A} {a : A} {s t : R} → e.on_failed ≡ Err Failed
    → GrowingOutcome K e s (Ok a) t → (K.state t).failed ≡ false
still_fine failed (by_reads h) = (ok_prefix failed h).failed
still_fine failed (in_a_read h) = let p = h.refused.answer in cc
still_fine failed (between_reads h) = let p = h.answer in cc

part_fine : {R A E : Type 0} {K : BitSource R} (becomes : Error → E → Type 0) {e : Decoder (Result A E)} {s t : R}
    (a : A) (plain : Result (Result A E) Error) → e.on_failed ≡ Err Failed → GrowingOutcome K e s plain t
    → OwnAnswer becomes (λ x. x) plain (Ok a) → (K.state t).failed ≡ false
part_fine becomes a (Ok v) failed h is = still_fine failed h
part_fine becomes a (Err x) failed h is = absurd is

stored : {R A : Type 0} {K : BitSource R} (a : A) (s : R) → GrowingOutcome K (stores a) s (Ok a) s
stored a s = by_reads (Reads-same (record { reads = λ p b. refl; on_failed = refl }) (Reads-pure a s))

module _ {R A E : Type 0} {K : BitSource R} {becomes : Error → E → Type 0} (e : Decoder (Result A E)) (last : A → Bool) where
  pub last-begin : {found : List A} (s : R) → found ≡ [] → UpToLastSoFar K becomes e last 0 s found s
  last-begin s none = record {
    fine = λ some. absurd (omega (arith, some));
    same = λ r end h.
        subst (λ (d : Decoder (Result (List A) E)). GrowsOwn K becomes d s r end) (from-first e last)
        (subst (λ l. GrowsOwn K becomes (up_to_last_from e last 4294967296 l) s r end) none h);
  }

  module _ (count : ℕ) {found : List A} {s t : R} (so : UpToLastSoFar K becomes e last count s found t) where
    step : (r : Result (List A) E) (end : R) → count < 4294967296
        → GrowsOwn K becomes (up_to_last_from e last (suc (4294967296 - (count + 1))) found) t r end
        → GrowsOwn K becomes (up_to_last_decoder e last) s r end
    step r end less h =
        let more : suc (4294967296 - (count + 1)) ≡ 4294967296 - count = omega (arith, less) in
        so.same r end (subst (λ n. GrowsOwn K becomes (up_to_last_from e last n found) t r end) more h)

    -- a part whose error a `?` returned
    pub last-stop : (x : E) (z : R) → count < 4294967296 → GrowsOwn K becomes e t (Err x) z
        → GrowsOwn K becomes (up_to_last_decoder e last) s (Err x) z
    last-stop x z less h =
        step (Err x) z less (rw (from-suc e last (4294967296 - (count + 1)) found) (part_stop _ h refl))

    module _ (x : A) (z : R) (less : count < 4294967296) (read : GrowsOwn K becomes e t (Ok x) z) where
      behind : (r : Result (List A) E) (end : R)
          → GrowsOwn K becomes (and_then (stores (found ++ x ∷ [])) (λ more. if last x then pure (Ok more)
          else up_to_last_from e last (4294967296 - (count + 1)) more)) z r end
          → GrowsOwn K becomes (up_to_last_decoder e last) s r end
      behind r end h =
          step r end less (rw (from-suc e last (4294967296 - (count + 1)) found) (part_go _ read h))

      -- the last part
      pub last-end : {more : List A} → more ≡ found ++ x ∷ [] → last x ≡ true
          → GrowsOwn K becomes (up_to_last_decoder e last) s (Ok more) z
      last-end {more = more} is ends =
          subst (λ l. GrowsOwn K becomes (up_to_last_decoder e last) s (Ok l) z) (sym is)
          (behind (Ok (found ++ x ∷ [])) z
          (go_grown _ (stored (found ++ x ∷ []) z) (rw ends (grown_end (Ok (found ++ x ∷ [])) z))))

      module _ (failed : e.on_failed ≡ Err Failed) where
        fine_here : (K.state z).failed ≡ false
        fine_here = part_fine becomes x read.plain failed read.called read.answer

        -- no memory for a part
        pub last-refused : (y : E) → becomes OutOfMemory y → GrowsOwn K becomes (up_to_last_decoder e last) s (Err y) z
        last-refused y own =
            behind (Err y) z (stop_grown _ (growth-here (stores (found ++ x ∷ [])) z fine_here refl) own)

        -- one part more
        pub last-push : {more : List A} → more ≡ found ++ x ∷ [] → last x ≡ false
            → UpToLastSoFar K becomes e last (count + 1) s more z
        last-push {more = more} is other = record {
          fine = λ some. fine_here;
          same = λ r end h. behind r end (go_grown _ (stored (found ++ x ∷ []) z) (rw other
              (subst (λ l. GrowsOwn K becomes (up_to_last_from e last (4294967296 - (count + 1)) l) z r end) is h)));
        }

    -- too many parts: the reader was made to fail
    pub last-too_long : (y : E) (z : R) → count ≡ 4294967296 → K.state z ≡ failed_reader (K.state t) → becomes RunTooLong y
        → GrowsOwn K becomes (up_to_last_decoder e last) s (Err y) z
    unfolding up_to_last_from
    last-too_long y z all broken own =
        let fine = so.fine (omega (arith, all)) in
        let none : 4294967296 - count ≡ 0 = omega (arith, all) in
        so.same (Err y) z
        (subst (λ n. GrowsOwn K becomes (up_to_last_from e last n found) t (Err y) z) (sym none) (record {
          plain = Err RunTooLong;
          called = by_reads (was_done (Took-too_long K.order (fail RunTooLong) [] (K.state t) (K.state t) (K.state z)
              (Took-nil K.order (K.state t) fine) broken (λ more. refl) (λ prefix b back is. absurd (none_needed prefix b back is))));
          answer = own;
        }))
