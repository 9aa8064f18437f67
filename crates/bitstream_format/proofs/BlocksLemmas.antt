-- Blocks of bytes: what the loops in code return.
use Rattle.std.proofs.Common.{◌≡◌, ℕ, suc, ◌+◌, ◌-◌, ◌<◌, ◌≤◌, ◌==◌, true, false, List, [], ◌∷◌, ◌++◌, length, get_or, Result, Ok, Err, refl, sym, subst, arith}
use Rattle.std.specs.Prelude.{if◌then◌else◌, flat_map}
use Rattle.std.specs.Result.{IsErrAnd}
use Rattle.std.proofs.lemmas.List.{take_all}
use Rattle.bitstream_count.specs.declared.error.Error.{Error}
use Rattle.bitstream_count.specs.declared.error.Error.TheVariants.{RunTooLong, OutOfMemory}
use Rattle.bitstream_count.specs.Codec.{fail, stores}
use Rattle.bitstream_stream.specs.Reading.Reads.{BitSource, Reads, ReadsGrowing, was_done, failed_reader}
use Rattle.bitstream_stream.specs.Reading.ReadTable.{bytes_decoder, unsigned_decoder, vec_decoder}
use Rattle.bitstream_stream.specs.Writing.Sink.{Sink, Writes}
use Rattle.bitstream_stream.proofs.Reading.ReadsLemmas.{Reads-pure, Reads-same, Took-nil, Took-too_long, none_needed}
use Rattle.bitstream_value.specs.Grows.{GrowingOutcome, by_reads}
use Rattle.bitstream_value.proofs.GrowsLemmas.{grows-and_then-ok, grows-and_then-err, growth-here, vec-grown}
use Rattle.bitstream_io.specs.Callers.{WritesAll, and_then, pure, unsigned}
use Rattle.bitstream_io.specs.Loop.{ItemsWritten}
use Rattle.bitstream_io.proofs.WriteParts.{all_append, all_one, all_stop}
use Rattle.bitstream_io.proofs.CallerLemmas.{is_error, written-stop}
use Rattle.bitstream_format.proofs.WithinLemmas.{fine_by}
use Rattle.bitstream_format.specs.Blocks.{block_writes, blocks_decoder, blocks_from, blocks_writes}
use Rattle.bitstream_format.specs.BlocksLaws.{blocks_from-suc}

-- ---- what the loop in code returns

-- the blocks so far: what the reads after them return is what all reads return
pub record BlocksSoFar {R : Type 0} (K : BitSource R) (count : ℕ) (start : R) (found : List (List ℕ)) (reader : R) : Type 0 where
  pub fine : 0 < count → (K.state reader).failed ≡ false
  pub same : (r : Result (List (List ℕ)) Error) (end : R)
      → GrowingOutcome K (blocks_from K.order (4294967296 - count) found) reader r end
      → GrowingOutcome K (blocks_decoder K.order) start r end

module _ {R : Type 0} {K : BitSource R} where
  pub blocks-begin : {found : List (List ℕ)} (s : R) → found ≡ [] → BlocksSoFar K 0 s found s
  blocks-begin s none = record {
    fine = λ some. absurd (omega (arith, some));
    same = λ r end h. subst (λ l. GrowingOutcome K (blocks_from K.order 4294967296 l) s r end) none h;
  }

  module _ (count : ℕ) {found : List (List ℕ)} {s t : R} (so : BlocksSoFar K count s found t) where
    step : (r : Result (List (List ℕ)) Error) (end : R) → count < 4294967296
        → GrowingOutcome K (blocks_from K.order (suc (4294967296 - (count + 1))) found) t r end
        → GrowingOutcome K (blocks_decoder K.order) s r end
    step r end less h =
        let more : suc (4294967296 - (count + 1)) ≡ 4294967296 - count = omega (arith, less) in
        so.same r end (subst (λ n. GrowingOutcome K (blocks_from K.order n found) t r end) more h)

    -- a size whose read fails
    pub blocks-stop : (x : Error) (z : R) → count < 4294967296 → Reads K (unsigned_decoder K.order 64 8) t (Err x) z
        → GrowingOutcome K (blocks_decoder K.order) s (Err x) z
    blocks-stop x z less h =
        step (Err x) z less (rw (blocks_from-suc K.order (4294967296 - (count + 1)) found) (grows-and_then-err _ _ (by_reads h)))

    module _ (size : ℕ) (z : R) (less : count < 4294967296) (read : Reads K (unsigned_decoder K.order 64 8) t (Ok size) z) where
      after_size : (r : Result (List (List ℕ)) Error) (end : R)
          → GrowingOutcome K (if size == 0 then pure found
          else and_then (vec_decoder K.order size) (λ bytes. and_then (stores (found ++ bytes ∷ []))
          (λ more. blocks_from K.order (4294967296 - (count + 1)) more))) z r end
          → GrowingOutcome K (blocks_decoder K.order) s r end
      after_size r end h =
          step r end less (rw (blocks_from-suc K.order (4294967296 - (count + 1)) found) (grows-and_then-ok _ _ (by_reads read) h))

      -- the empty block
      pub blocks-end : (size == 0) ≡ true → GrowingOutcome K (blocks_decoder K.order) s (Ok found) z
      blocks-end is = after_size (Ok found) z (rw is (by_reads (Reads-pure found z)))

      module _ (other : (size == 0) ≡ false) where
        -- bytes whose read fails
        pub blocks-cut : (x : Error) (end : R) → ReadsGrowing K (bytes_decoder K.order size) z (Err x) end
            → GrowingOutcome K (blocks_decoder K.order) s (Err x) end
        blocks-cut x end h =
            after_size (Err x) end (rw other (grows-and_then-err _ _ (vec-grown K.order size h)))

        module _ (bytes : List ℕ) (end : R) (whole : ReadsGrowing K (bytes_decoder K.order size) z (Ok bytes) end) where
          -- no memory for a block
          pub blocks-refused : GrowingOutcome K (blocks_decoder K.order) s (Err OutOfMemory) end
          blocks-refused =
              after_size (Err OutOfMemory) end (rw other (grows-and_then-ok _ _ (vec-grown K.order size whole)
              (grows-and_then-err _ _ (growth-here (stores (found ++ bytes ∷ [])) end (fine_by K.order size whole) refl))))

          -- one block more
          pub blocks-push : {more : List (List ℕ)} → more ≡ found ++ bytes ∷ [] → BlocksSoFar K (count + 1) s more end
          blocks-push {more = more} is = record {
            fine = λ some. fine_by K.order size whole;
            same = λ r last h. after_size r last (rw other (grows-and_then-ok _ _ (vec-grown K.order size whole)
                (grows-and_then-ok _ _
                (by_reads (Reads-same (record { reads = λ p b. refl; on_failed = refl }) (Reads-pure (found ++ bytes ∷ []) end)))
                (subst (λ l. GrowingOutcome K (blocks_from K.order (4294967296 - (count + 1)) l) end r last) is h))));
          }

    -- too many blocks: the reader was made to fail
    pub blocks-too_long : (z : R) → count ≡ 4294967296 → K.state z ≡ failed_reader (K.state t)
        → GrowingOutcome K (blocks_decoder K.order) s (Err RunTooLong) z
    unfolding blocks_from
    blocks-too_long z all broken =
        let fine = so.fine (omega (arith, all)) in
        let none : 4294967296 - count ≡ 0 = omega (arith, all) in
        so.same (Err RunTooLong) z
        (subst (λ n. GrowingOutcome K (blocks_from K.order n found) t (Err RunTooLong) z) (sym none)
        (by_reads (was_done (Took-too_long K.order (fail RunTooLong) [] (K.state t) (K.state t) (K.state z)
        (Took-nil K.order (K.state t) fine) broken (λ more. refl) (λ prefix b back is. absurd (none_needed prefix b back is))))))

-- ---- what the loop in code writes

module _ {S : Type 0} (K : Sink S) (xs : List (List ℕ)) where
  -- all blocks, and then the empty one
  pub blocks-written : (k : ℕ) (s t z : S) (r : Result (Unit {0}) Error) → length xs ≤ k
      → ItemsWritten K (block_writes K.order) xs k s t → Writes {T = Unit {0}} K (unsigned K.order 64 8 0) t r z
      → WritesAll K (blocks_writes K.order xs) s r z
  blocks-written k s t z r all h last =
      let whole : WritesAll K (flat_map (block_writes K.order) xs) s (Ok tt) t =
      subst (λ ys. WritesAll K (flat_map (block_writes K.order) ys) s (Ok tt) t) (take_all k xs all) h in
      all_append K (flat_map (block_writes K.order) xs) (unsigned K.order 64 8 0 ∷ []) s t r z whole
      (all_one K (unsigned K.order 64 8 0) t r z last)

  -- a block whose write fails
  pub blocks-unwritten : (k : ℕ) (x d : List ℕ) (s t z : S) (e : Error) (r : Result (Unit {0}) Error) → k < length xs
      → x ≡ get_or xs k d → ItemsWritten K (block_writes K.order) xs k s t → WritesAll K (block_writes K.order x) t (Err e) z
      → IsErrAnd r (λ y. y ≡ e) → WritesAll K (blocks_writes K.order xs) s r z
  blocks-unwritten k x d s t z e r less is h one err =
      all_stop K (flat_map (block_writes K.order) xs) (unsigned K.order 64 8 0 ∷ []) s e r z (is_error r e err)
      (written-stop K (block_writes K.order) xs k x d s t z e (Err e) less is h one refl)
