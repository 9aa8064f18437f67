-- Errors of a function whose vector is seen as its items, and memory that is refused after a read.
use Rattle.std.proofs.Common.{◌≡◌, ℤ, List, Result, Ok, Err, Vec, Global, false, ap, refl, subst, sym}
use Rattle.std.specs.Prelude.{MatchResult}
use Rattle.std.specs.Result.{IsErrAnd}
use Rattle.bitstream_io.specs.Callers.{BitSource, Decoder, Error, Failed, GrowsOwn, OutOfMemory, OwnAnswer, Reads, ReadsOwn, and_then, part_then, pure, result_map, stores}
use Rattle.bitstream_io.specs.Grows.{GrowingOutcome, by_reads, in_a_read, between_reads}
use Rattle.bitstream_io.specs.Reads.{had_failed, was_done, was_refused, memory_refused}
use Rattle.bitstream_io.proofs.CallerLemmas.{Reads-and_then-ok, Reads-pure, own_end, own_refused}
use Rattle.bitstream_io.proofs.OwnSteps.{part_stops}
use Rattle.bitstream_io.proofs.ReadsLemmas.{Reads-same, ok_prefix}
use Rattle.flac_codec.specs.Errors.{becomes_flac}
use Rattle.flac_codec.specs.declared.error.FlacError.{FlacError}
use Rattle.flac_codec.specs.declared.error.FlacError.TheVariants.{Reader}

-- an error of the reader
pub map_stop : (e : Error) (r : Result (Vec ℤ Global) FlacError) → IsErrAnd r (becomes_flac e)
    → IsErrAnd (result_map (λ v. v.items) r) (becomes_flac e)
map_stop e (Ok v) h = absurd h
map_stop e (Err x) h = h

-- an error of a part
pub map_is : (x : FlacError) (r : Result (Vec ℤ Global) FlacError) → IsErrAnd r (λ y. y ≡ x)
    → result_map (λ v. v.items) r ≡ Err x
map_is x (Ok v) h = absurd h
map_is x (Err y) h = ap Err h

-- ---- memory that is refused after a read

-- a reader that has read a value has not failed
pub fine_after : {R A : Type 0} {K : BitSource R} {e : Decoder A} {a : A} {s t : R} → e.on_failed ≡ Err Failed
    → GrowingOutcome K e s (Ok a) t → (K.state t).failed ≡ false
fine_after failed (by_reads h) = (ok_prefix failed h).failed
fine_after failed (in_a_read h) = let p = h.refused.answer in cc
fine_after failed (between_reads h) = let p = h.answer in cc

part_fine : {R A E : Type 0} {K : BitSource R} (becomes : Error → E → Type 0) {e : Decoder (Result A E)} {s t : R} (a : A)
    (plain : Result (Result A E) Error) → e.on_failed ≡ Err Failed → GrowingOutcome K e s plain t
    → OwnAnswer becomes (λ y. y) plain (Ok a) → (K.state t).failed ≡ false
part_fine becomes a (Ok v) failed h is = fine_after failed h
part_fine becomes a (Err x) failed h is = absurd is

pub fine_after_part : {R A E : Type 0} {K : BitSource R} {becomes : Error → E → Type 0} {e : Decoder (Result A E)} {a : A}
    {s t : R} → e.on_failed ≡ Err Failed → GrowsOwn K becomes e s (Ok a) t → (K.state t).failed ≡ false
fine_after_part {becomes = becomes} {a = a} failed h = part_fine becomes a h.plain failed h.called h.answer

-- and so has one that had not failed before
fine_still : {R A : Type 0} {K : BitSource R} {e : Decoder A} {a : A} {s t : R} → (K.state s).failed ≡ false
    → GrowingOutcome K e s (Ok a) t → (K.state t).failed ≡ false
fine_still fine (by_reads (had_failed h)) = let p = h.failed in cc
fine_still fine (by_reads (was_done h)) = h.failed
fine_still fine (by_reads (was_refused h)) = let p = h.answer in cc
fine_still fine (by_reads (memory_refused grows h)) = let p = h.answer in cc
fine_still fine (in_a_read h) = let p = h.refused.answer in cc
fine_still fine (between_reads h) = let p = h.answer in cc

still_part : {R A E : Type 0} {K : BitSource R} (becomes : Error → E → Type 0) {e : Decoder (Result A E)} {s t : R} (a : A)
    (plain : Result (Result A E) Error) → (K.state s).failed ≡ false → GrowingOutcome K e s plain t
    → OwnAnswer becomes (λ y. y) plain (Ok a) → (K.state t).failed ≡ false
still_part becomes a (Ok v) fine h is = fine_still fine h
still_part becomes a (Err x) fine h is = absurd is

pub fine_still_part : {R A E : Type 0} {K : BitSource R} {becomes : Error → E → Type 0} {e : Decoder (Result A E)} {a : A}
    {s t : R} → (K.state s).failed ≡ false → GrowsOwn K becomes e s (Ok a) t → (K.state t).failed ≡ false
fine_still_part {becomes = becomes} {a = a} fine h = still_part becomes a h.plain fine h.called h.answer

-- the samples are not stored
pub store_refused : {R : Type 0} {K : BitSource R} {s : R} (samples : List ℤ) (r : Result (Vec ℤ Global) FlacError)
    → (K.state s).failed ≡ false → IsErrAnd r (becomes_flac OutOfMemory)
    → GrowsOwn K becomes_flac (stores (Ok samples)) s (result_map (λ v. v.items) r) s
store_refused {s = s} samples r fine h = own_refused (stores (Ok samples)) _ s fine refl (map_stop OutOfMemory r h)

pub store_done : {R : Type 0} {K : BitSource R} {s : R} (samples : List ℤ) (found : List ℤ) → found ≡ samples
    → GrowsOwn K becomes_flac (stores (Ok samples)) s (Ok found) s
store_done {s = s} samples found is = record {
  plain = Ok (Ok samples);
  called = by_reads (Reads-same (record { reads = λ p b. refl; on_failed = refl }) (Reads-pure (Ok samples) s));
  answer = ap Ok is;
}

-- ---- parts that ask for no memory

own_goes : {R A B E : Type 0} {K : BitSource R} (becomes : Error → E → Type 0) {e : Decoder (Result A E)} (f : A
    → Decoder (Result B E)) {r : Result B E} {s t z : R} (a : A) (plain : Result (Result A E) Error) → Reads K e s plain t
    → OwnAnswer becomes (λ y. y) plain (Ok a) → ReadsOwn K becomes (f a) t r z
    → ReadsOwn K becomes (and_then e (part_then f)) s r z
own_goes {K = K} becomes {e = e} f {s = s} {t = t} a (Ok x) h own k = record {
  plain = k.plain;
  called = Reads-and_then-ok e (part_then f) (subst (λ y. Reads K e s (Ok y) t) (sym own) h) k.called;
  answer = k.answer;
}
own_goes becomes f a (Err x) h own k = absurd own

module _ {R A B E : Type 0} {K : BitSource R} {becomes : Error → E → Type 0} {r : Result B E} (f : A → Decoder (Result B E)) where
  pub own_part_go : {e : Decoder (Result A E)} {s t z : R} {a : A} → ReadsOwn K becomes e s (Ok a) t
      → ReadsOwn K becomes (f a) t r z → ReadsOwn K becomes (and_then e (part_then f)) s r z
  own_part_go {a = a} h k = own_goes becomes f a h.plain h.called h.answer k

  pub own_part_stop : {e : Decoder (Result A E)} {s t : R} {x : E} → r ≡ Err x → ReadsOwn K becomes e s (Err x) t
      → ReadsOwn K becomes (and_then e (part_then f)) s r t
  own_part_stop {x = x} is h = part_stops f x h.plain is h.called h.answer

  -- a value that is computed of what was read
  pub own_value_go : {s z : R} {a : A} {x : Result A E} → Ok a ≡ x → ReadsOwn K becomes (f a) s r z
      → ReadsOwn K becomes (part_then f x) s r z
  own_value_go {s = s} {z = z} is k = subst (λ y. ReadsOwn K becomes (part_then f y) s r z) is k

  pub own_value_stop : {s : R} {y : E} {x : Result A E} → Err y ≡ x → r ≡ Err y → ReadsOwn K becomes (part_then f x) s r s
  own_value_stop {s = s} {y = y} is stop =
      subst (λ z. ReadsOwn K becomes (part_then f z) s r s) is
      (subst (λ z. ReadsOwn K becomes (pure (Err y)) s z s) (sym stop) (own_end (Err y) s))

-- ---- a vector of channels, or another value that is seen by a view

module _ {V B : Type 0} (view : V → B) where
  pub seen_stop : (e : Error) (r : Result V FlacError) → IsErrAnd r (becomes_flac e)
      → IsErrAnd (result_map view r) (becomes_flac e)
  seen_stop e (Ok v) h = absurd h
  seen_stop e (Err x) h = h

  pub seen_is : (x : FlacError) (r : Result V FlacError) → IsErrAnd r (λ y. y ≡ x) → result_map view r ≡ Err x
  seen_is x (Ok v) h = absurd h
  seen_is x (Err y) h = ap Err h

  -- a value that is stored, if there is memory
  pub stored : {R : Type 0} {K : BitSource R} {s : R} (value : B) (r : Result V FlacError) → (K.state s).failed ≡ false
      → MatchResult r (λ v. view v ≡ value) (λ error. error ≡ Reader OutOfMemory)
      → GrowsOwn K becomes_flac (stores (Ok value)) s (result_map view r) s
  stored {s = s} value (Ok v) fine is = record {
    plain = Ok (Ok value);
    called = by_reads (Reads-same (record { reads = λ p b. refl; on_failed = refl }) (Reads-pure (Ok value) s));
    answer = ap Ok is;
  }
  stored {s = s} value (Err x) fine is = own_refused (stores (Ok value)) (Err x) s fine refl is

pub grown_as : {R A E : Type 0} {K : BitSource R} {becomes : Error → E → Type 0} {e : Decoder (Result A E)} {s t : R}
    {r x : Result A E} → r ≡ x → GrowsOwn K becomes e s x t → GrowsOwn K becomes e s r t
grown_as is h = rw is h
