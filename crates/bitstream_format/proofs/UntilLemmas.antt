-- Bytes up to a terminator: what the loops in code return.
use Rattle.std.proofs.Common.{◌≡◌, ℕ, suc, ◌+◌, ◌-◌, ◌<◌, ◌≤◌, ◌==◌, true, false, List, [], ◌∷◌, ◌++◌, length, get_or, Result, Ok, Err, refl, sym, subst, arith}
use Rattle.std.specs.Prelude.{if◌then◌else◌, flat_map}
use Rattle.std.specs.Result.{IsErrAnd}
use Rattle.std.proofs.lemmas.List.{take_all}
use Rattle.bitstream_count.specs.declared.error.Error.{Error}
use Rattle.bitstream_count.specs.declared.error.Error.TheVariants.{RunTooLong, OutOfMemory, Failed}
use Rattle.bitstream_count.specs.Codec.{fail, stores}
use Rattle.bitstream_stream.specs.Reading.Reads.{BitSource, Reads, was_done, failed_reader}
use Rattle.bitstream_stream.specs.Reading.ReadTable.{unsigned_decoder}
use Rattle.bitstream_stream.specs.Writing.WriteTable.{unsigned}
use Rattle.bitstream_stream.proofs.Reading.ReadsLemmas.{Reads-pure, Reads-same, Took-nil, Took-too_long, none_needed, ok_prefix}
use Rattle.bitstream_value.specs.Grows.{GrowingOutcome, by_reads}
use Rattle.bitstream_value.proofs.GrowsLemmas.{grows-and_then-ok, grows-and_then-err, growth-here}
use Rattle.bitstream_io.specs.Callers.{Decoder, and_then, pure}
use Rattle.bitstream_stream.specs.Writing.Sink.{Sink, Writes}
use Rattle.bitstream_io.specs.Callers.{WritesAll}
use Rattle.bitstream_io.specs.Loop.{ItemsWritten}
use Rattle.bitstream_io.proofs.WriteParts.{all_append, all_one, all_stop}
use Rattle.bitstream_io.proofs.CallerLemmas.{is_error, written-stop}
use Rattle.bitstream_format.specs.Until.{until_decoder, until_from, until_item, until_word, until_writes}
use Rattle.bitstream_format.specs.UntilLaws.{until_from-suc}

-- ---- what the loop in code returns

-- the bytes so far: what the reads after them return is what all reads return
pub record UntilSoFar {R : Type 0} (K : BitSource R) (stop count : ℕ) (start : R) (found : List ℕ) (reader : R) : Type 0 where
  pub fine : 0 < count → (K.state reader).failed ≡ false
  pub same : (r : Result (List ℕ) Error) (end : R)
      → GrowingOutcome K (until_from (unsigned_decoder K.order 8 8) stop (4294967296 - count) found) reader r end
      → GrowingOutcome K (until_decoder K.order stop) start r end

fine_after : {R A : Type 0} {K : BitSource R} {e : Decoder A} {a : A} {s t : R} → e.on_failed ≡ Err Failed → Reads K e s (Ok a) t
    → (K.state t).failed ≡ false
fine_after failed h = (ok_prefix failed h).failed

module _ {R : Type 0} {K : BitSource R} (stop : ℕ) where
  pub until-begin : {found : List ℕ} (s : R) → found ≡ [] → UntilSoFar K stop 0 s found s
  until-begin s none = record {
    fine = λ some. absurd (omega (arith, some));
    same = λ r end h. subst (λ l. GrowingOutcome K (until_from (unsigned_decoder K.order 8 8) stop 4294967296 l) s r end) none h;
  }

  module _ (count : ℕ) {found : List ℕ} {s t : R} (so : UntilSoFar K stop count s found t) where
    one_more : count < 4294967296 → 4294967296 - count ≡ suc (4294967296 - (count + 1))
    one_more less = omega (arith, less)

    step : (r : Result (List ℕ) Error) (end : R) → count < 4294967296
        → GrowingOutcome K (until_from (unsigned_decoder K.order 8 8) stop (suc (4294967296 - (count + 1))) found) t r end
        → GrowingOutcome K (until_decoder K.order stop) s r end
    step r end less h =
        so.same r end (subst (λ n. GrowingOutcome K (until_from (unsigned_decoder K.order 8 8) stop n found) t r end) (sym (one_more less)) h)

    -- a read that fails
    pub until-stop : (x : Error) (z : R) → count < 4294967296 → Reads K (unsigned_decoder K.order 8 8) t (Err x) z
        → GrowingOutcome K (until_decoder K.order stop) s (Err x) z
    until-stop x z less h =
        step (Err x) z less (rw (until_from-suc (unsigned_decoder K.order 8 8) stop (4294967296 - (count + 1)) found)
        (grows-and_then-err _ _ (by_reads h)))

    module _ (x : ℕ) (z : R) (less : count < 4294967296) (read : Reads K (unsigned_decoder K.order 8 8) t (Ok x) z) where
      behind : (r : Result (List ℕ) Error) (end : R)
          → GrowingOutcome K (if x == stop then pure found
          else and_then (stores (found ++ x ∷ [])) (λ more. until_from (unsigned_decoder K.order 8 8) stop (4294967296 - (count + 1)) more)) z r end
          → GrowingOutcome K (until_decoder K.order stop) s r end
      behind r end h =
          step r end less (rw (until_from-suc (unsigned_decoder K.order 8 8) stop (4294967296 - (count + 1)) found)
          (grows-and_then-ok _ _ (by_reads read) h))

      -- the terminator
      pub until-end : (x == stop) ≡ true → GrowingOutcome K (until_decoder K.order stop) s (Ok found) z
      until-end is = behind (Ok found) z (rw is (by_reads (Reads-pure found z)))

      fine_here : (K.state z).failed ≡ false
      unfolding unsigned_decoder
      fine_here = fine_after refl read

      module _ (other : (x == stop) ≡ false) where
        -- no memory for a byte
        pub until-refused : GrowingOutcome K (until_decoder K.order stop) s (Err OutOfMemory) z
        until-refused =
            behind (Err OutOfMemory) z (rw other (grows-and_then-err _ _ (growth-here (stores (found ++ x ∷ [])) z fine_here refl)))

        -- one byte more
        pub until-push : {more : List ℕ} → more ≡ found ++ x ∷ [] → UntilSoFar K stop (count + 1) s more z
        until-push {more = more} is = record {
          fine = λ some. fine_here;
          same = λ r end h. behind r end (rw other (grows-and_then-ok _ _
              (by_reads (Reads-same (record { reads = λ p b. refl; on_failed = refl }) (Reads-pure (found ++ x ∷ []) z)))
              (subst (λ l. GrowingOutcome K (until_from (unsigned_decoder K.order 8 8) stop (4294967296 - (count + 1)) l) z r end) is h)));
        }

    -- too many bytes: the reader was made to fail
    pub until-too_long : (z : R) → count ≡ 4294967296 → K.state z ≡ failed_reader (K.state t)
        → GrowingOutcome K (until_decoder K.order stop) s (Err RunTooLong) z
    unfolding until_from
    until-too_long z all broken =
        let fine = so.fine (omega (arith, all)) in
        let none : 4294967296 - count ≡ 0 = omega (arith, all) in
        so.same (Err RunTooLong) z
        (subst (λ n. GrowingOutcome K (until_from (unsigned_decoder K.order 8 8) stop n found) t (Err RunTooLong) z) (sym none)
        (by_reads (was_done (Took-too_long K.order (fail RunTooLong) [] (K.state t) (K.state t) (K.state z)
        (Took-nil K.order (K.state t) fine) broken (λ more. refl) (λ prefix b back is. absurd (none_needed prefix b back is))))))

-- ---- what the loop in code writes

module _ {S : Type 0} (K : Sink S) (stop : ℕ) (xs : List ℕ) where
  -- all bytes, and then the terminator
  pub until-written : (k : ℕ) (s t z : S) (r : Result (Unit {0}) Error) → length xs ≤ k
      → ItemsWritten K (until_word K.order stop) xs k s t → Writes {T = Unit {0}} K (unsigned K.order 8 8 stop) t r z
      → WritesAll K (until_writes K.order stop xs) s r z
  until-written k s t z r all h last =
      let whole : WritesAll K (flat_map (until_word K.order stop) xs) s (Ok tt) t =
      subst (λ ys. WritesAll K (flat_map (until_word K.order stop) ys) s (Ok tt) t) (take_all k xs all) h in
      all_append K (flat_map (until_word K.order stop) xs) (unsigned K.order 8 8 stop ∷ []) s t r z whole
      (all_one K (unsigned K.order 8 8 stop) t r z last)

  -- a byte whose write fails
  pub until-unwritten : (k x d : ℕ) (s t z : S) (e : Error) (r : Result (Unit {0}) Error) → k < length xs → x ≡ get_or xs k d
      → ItemsWritten K (until_word K.order stop) xs k s t
      → Writes {T = Unit {0}} K (unsigned K.order 16 8 (until_item stop x)) t (Err e) z → IsErrAnd r (λ y. y ≡ e)
      → WritesAll K (until_writes K.order stop xs) s r z
  until-unwritten k x d s t z e r less is h one err =
      let word = all_one K (unsigned K.order 16 8 (until_item stop x)) t (Err e) z one in
      let all : WritesAll K (flat_map (until_word K.order stop) xs) s (Err e) z =
      written-stop K (until_word K.order stop) xs k x d s t z e (Err e) less is h word refl in
      all_stop K (flat_map (until_word K.order stop) xs) (unsigned K.order 8 8 stop ∷ []) s e r z (is_error r e err) all
