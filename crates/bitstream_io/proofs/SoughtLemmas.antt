-- Seeks of a reader of bytes in memory, from its start to a place and back.
use Rattle.std.proofs.Common.{◌≡◌, ℕ, ◌*◌, ◌^◌, ◌<◌, ◌≤◌, Bool, true, false, List, length, drop, Option, Some, None, Result, Ok, Err, refl, ap, subst, arith, inl, inr}
use Rattle.std.proofs.lemmas.Bool.{cases_lt, lt-ltb}
use Rattle.std.specs.declared.io.traits.SeekFrom.TheVariants.{Start}
use Rattle.bitstream_count.specs.declared.error.Error.{Error}
use Rattle.bitstream_count.specs.declared.error.Error.TheVariants.{Failed, Place}
use Rattle.bitstream_number.specs.Word.{Order}
use Rattle.bitstream_stream.specs.Reading.MemorySeek.{GoesWithin, SeeksInMemory, StandsAt, had_failed, was_meant, was_done, was_rejected, memory_bytes}
use Rattle.bitstream_stream.specs.Reading.MemorySource.{memory_source}
use Rattle.bitstream_stream.specs.declared.read.slice_reader.SliceReader.{SliceReader}
use Rattle.bitstream_stream.proofs.Reading.MemorySeeks.{bytes_behind}

module _ {E : Type 0} (o : Order) (place : ℕ) (old new : SliceReader E) (within : place ≤ 8 * length old.all.now) where
  goes : (p : Option ℕ) (result : Result ℕ Error) → Some place ≡ p → GoesWithin o p old result new
      → StandsAt o place old new
  goes None result e h = absurd cc
  goes (Some q) result e (was_done at is le answer stands) =
      let same : at ≡ place = cc in
      subst (λ k. StandsAt o k old new) same stands
  goes (Some q) result e (was_rejected past answer kept) =
      let same : q ≡ place = cc in
      absurd (omega (arith, past, same, within))

  -- a seek to a place within the bytes goes there
  pub sought : (result : Result ℕ Error) → place < 2 ^ 64 → SeeksInMemory o (Start place) old result new
      → StandsAt o place old new
  sought result below (had_failed h) = absurd h.from_here
  sought result below (was_meant p knows means h) =
      let is = means.meant in
      let here : Some place ≡ p = rw (lt-ltb place (2 ^ 64) below) at is in
      goes p result here h

-- a reader that tells its place has not failed
pub knows_place : (failed : Bool) (taken place : ℕ)
    → (failed ≡ true → ◌≡◌ {A = Result ℕ Error} (Ok place) (Err Failed))
    → (failed ≡ false → taken < 2 ^ 64 → ◌≡◌ {A = Result ℕ Error} (Ok place) (Ok taken))
    → (failed ≡ false → 2 ^ 64 ≤ taken → ◌≡◌ {A = Result ℕ Error} (Ok place) (Err Place))
    → (failed ≡ false) × (place ≡ taken)
knows_place true taken place stopped known above = let e = stopped refl in absurd cc
knows_place false taken place stopped known above = elim (cases_lt taken (2 ^ 64)) [
  | inl less ↦ let e = known refl less in (refl, cc)
  | inr more ↦ let e = above refl more in absurd cc
]

-- the rest of a reader at its start is all its bytes
pub rest_all : {E : Type 0} (o : Order) (r : SliceReader E) (rest : List ℕ)
    → ((memory_source o).state r).taken ≡ 0 → ((memory_source o).state r).bytes ≡ Some rest → rest ≡ memory_bytes r
rest_all o r rest start is =
    let behind = bytes_behind o r in
    let none : ((memory_source o).state r).fetched ≡ 0 = omega (arith, start) in
    let all : Some (drop ((memory_source o).state r).fetched (memory_bytes r)) ≡ Some (memory_bytes r) =
    ap (λ k. Some (drop k (memory_bytes r))) none in
    cc
