-- Calls whose errors are of a type of their own.
use Rattle.std.proofs.Common.{◌≡◌, ℕ, ◌+◌, Bool, true, false, List, [], ◌∷◌, Result, Ok, Err, refl, sym, ap, ◌∙◌, subst, arith, length, ◌++◌}
use Rattle.std.specs.Result.{IsErrAnd}
use Rattle.bitstream_count.specs.declared.error.Error.{Error}
use Rattle.bitstream_count.specs.Codec.{Prefix, Incomplete, Done, Decoder, Encoder, and_then, prefix_then, result_then}
use Rattle.bitstream_stream.specs.Reading.Reads.{BitSource, Reads, ReadOutcome, ReadsConst, ConstAnswer, is_run_too_long, had_failed, was_done, was_refused, memory_refused}
use Rattle.bitstream_stream.specs.Writing.Sink.{Sink, WritesAll}
use Rattle.bitstream_stream.proofs.Reading.ReadsLemmas.{Reads-and_then-ok, Reads-and_then-err, Reads-pure, Reads-behind, Begun-nil, none_needed}
use Rattle.bitstream_value.specs.Own.{OwnAnswer, ReadsOwn, WritesOwn, same_error, plain_reads, must_hold}

-- reads that have no error but the reader's
pub plainly_read : {R A : Type 0} {K : BitSource R} {e : Decoder A} {r : Result A Error} {s t : R} → Reads K e s r t
    → ReadsOwn K same_error (plain_reads e) s r t
plainly_read {r = Ok a} {t = t} h = record {
  plain = Ok (Ok a);
  called = Reads-and_then-ok _ _ h (Reads-pure (Ok a) t);
  answer = refl;
}
plainly_read {r = Err x} h = record { plain = Err x; called = Reads-and_then-err _ _ h; answer = refl }

-- writes that have no error but the sink's
pub plainly_written : {S : Type 0} (K : Sink S) (es : List Encoder) (r : Result (Unit {0}) Error) (s t : S)
    → WritesAll K es s r t → WritesOwn K same_error es (Ok tt) s r t
plainly_written K es (Ok v) s t h = record { plain = Ok v; called = h; answer = refl }
plainly_written K es (Err x) s t h = record { plain = Err x; called = h; answer = refl }

const_by : {R E : Type 0} (K : BitSource R) (becomes : Error → E → Type 0) (decoder : Decoder Bool) (err : E)
    (s : R) (r : Result (Unit {0}) E) (t : R) (plain : Result Bool Error) → Reads K decoder s plain t
    → ConstAnswer becomes err plain r
    → ReadsOwn K becomes (must_hold decoder err) s r t
const_by K becomes decoder err s r t (Ok true) h is = record {
  plain = Ok (Ok tt);
  called =
      Reads-and_then-ok _ _ h (Reads-pure (Ok tt) t);
  answer = is;
}
const_by K becomes decoder err s r t (Ok false) h is = record {
  plain = Ok (Err err);
  called =
      Reads-and_then-ok _ _ h (Reads-pure (Err err) t);
  answer = is;
}
const_by K becomes decoder err s r t (Err x) h is = record { plain = Err x; called = Reads-and_then-err _ _ h; answer = is }

-- a read of a constant is a read with errors of its own
pub const_read : {R E : Type 0} (K : BitSource R) (becomes : Error → E → Type 0) (decoder : Decoder Bool) (err : E)
    (s : R) (r : Result (Unit {0}) E) (t : R) → ReadsConst K becomes decoder err s r t
    → ReadsOwn K becomes (must_hold decoder err) s r t
const_read K becomes decoder err s r t h = const_by K becomes decoder err s r t h.plain h.reads h.answer

-- what the exit of a `?` returns
pub is_error : {A E : Type 0} (r : Result A E) (x : E) → IsErrAnd r (λ y. y ≡ x) → r ≡ Err x
is_error (Ok a) x h = absurd h
is_error (Err y) x h = ap Err h

-- writes that have no error but the sink's are such writes
written_by : {S : Type 0} (K : Sink S) (es : List Encoder) (r : Result (Unit {0}) Error) (s t : S)
    (plain : Result (Unit {0}) Error) → WritesAll K es s plain t → OwnAnswer same_error (λ _. Ok tt) plain r
    → WritesAll K es s r t
written_by K es r s t (Ok v) h is = subst (λ x. WritesAll K es s x t) (sym is) h
written_by K es r s t (Err x) h is = subst (λ y. WritesAll K es s y t) (sym (is_error r x is)) h

pub written_plainly : {S : Type 0} (K : Sink S) (es : List Encoder) (r : Result (Unit {0}) Error) (s t : S)
    → WritesOwn K same_error es (Ok tt) s r t → WritesAll K es s r t
written_plainly K es r s t h = written_by K es r s t h.plain h.called h.answer

-- ---- reads that have no error but the reader's are such reads

-- the result without the type's own errors, of which there are none
abbrev pub flatten : {A : Type 0} → Result (Result A Error) Error → Result A Error
flatten (Ok answer) = answer
flatten (Err x) = Err x

prefix_taken : {A : Type 0} (f : Prefix A) (n : ℕ) (r : Result (Result A Error) Error)
    → prefix_then f (λ m a. Done 0 (Ok (Ok a))) ≡ Done n r → f ≡ Done n (flatten r)
prefix_taken Incomplete n r h = cc
prefix_taken (Done m (Ok a)) n r h = let here : m ≡ m + 0 = omega arith in let size : m + 0 ≡ n = cc in let same :
    Ok (Ok a) ≡ r = cc in ap (λ k. Done k (Ok a)) (here ∙ size) ∙ ap (λ (x : Result _ Error). Done n (flatten x)) same
prefix_taken (Done m (Err x)) n r h = let size : m ≡ n = cc in let same : Err x ≡ r = cc in
    ap (λ k. Done k (Err x)) size ∙ ap (λ (y : Result _ Error). Done n (flatten y)) same

pub prefix_short : {A : Type 0} (f : Prefix A) → prefix_then {B = Result A Error} f (λ m a. Done 0 (Ok (Ok a))) ≡ Incomplete → f
    ≡ Incomplete
prefix_short Incomplete h = refl
prefix_short (Done m (Ok a)) h = cc
prefix_short (Done m (Err x)) h = cc

prefix_never : {A : Type 0} (f : Prefix A) (n : ℕ) (y : Error)
    → prefix_then {B = Result A Error} f (λ m a. Done 0 (Ok (Ok a))) ≡ Done n (Ok (Err y)) → ⊥
prefix_never Incomplete n y h = cc
prefix_never (Done m (Ok a)) n y h = cc
prefix_never (Done m (Err x)) n y h = cc

failed_joined : {A : Type 0} (y : Result A Error) → flatten (result_then y (λ a. Ok (Ok a))) ≡ y
failed_joined (Ok a) = refl
failed_joined (Err x) = refl

failed_never : {A : Type 0} (z : Result A Error) (y : Error) → Ok (Err y)
    ≡ result_then {B = Result A Error} z (λ a. Ok (Ok a)) → ⊥
failed_never (Ok a) y h = cc
failed_never (Err x) y h = cc

module _ {R A : Type 0} (K : BitSource R) (e : Decoder A) (s t : R) where
  pub never_own : {grows : Bool} (y : Error) → ReadOutcome K grows (plain_reads {E = Error} e) s (Ok (Err y)) t → ⊥
  unfolding and_then
  never_own y (had_failed h) = failed_never e.on_failed y h.answer
  never_own y (was_done h) = prefix_never (e.reads (K.state s).taken (h.word ++ [])) (length h.word) y (h.decides [])
  never_own y (was_refused h) = let p = h.answer in cc
  never_own y (memory_refused g h) = let p = h.answer in cc

  pub read_by : {grows : Bool} (plain : Result (Result A Error) Error) → is_run_too_long (flatten plain)
      ≡ is_run_too_long plain → ReadOutcome K grows (plain_reads e) s plain t → ReadOutcome K grows e s (flatten plain) t
  unfolding and_then
  read_by plain long h =
      Reads-behind e (plain_reads e) [] (flatten plain) plain s s t (Begun-nil K s)
      (record {
        needs = λ prefix b back is. absurd (none_needed prefix b back is);
        short =
            λ more few. prefix_short (e.reads (K.state s).taken more) few;
      })
      (λ broken q. ap flatten q ∙ failed_joined e.on_failed) (λ y q. ap flatten q) long
      (λ v d more. prefix_taken (e.reads (K.state s).taken (v ++ more)) (length v) plain (d more)) h

  read_of : (plain : Result (Result A Error) Error) (r : Result A Error) → Reads K (plain_reads e) s plain t
      → OwnAnswer same_error (λ x. x) plain r → Reads K e s r t
  read_of (Ok (Ok a)) r h is = subst (λ x. Reads K e s x t) (sym is) (read_by (Ok (Ok a)) refl h)
  read_of (Ok (Err y)) r h is = absurd (never_own y h)
  read_of (Err x) r h is = subst (λ y. Reads K e s y t) (sym (is_error r x is)) (read_by (Err x) refl h)

  -- reads of a type that has no error but the reader's are such reads
  pub read_plainly : (r : Result A Error) → ReadsOwn K same_error (plain_reads e) s r t → Reads K e s r t
  read_plainly r h = read_of h.plain r h.called h.answer
