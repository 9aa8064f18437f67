-- Reads in a function that asks for memory of its own.
use Rattle.std.proofs.Common.{Some, ◌≡◌, ℕ, ◌+◌, ◌*◌, ◌⊎◌, inl, inr, Bool, true, false, ◌||◌, IsTrue, List, [], ◌∷◌, ◌++◌, length, drop, Result, Ok, Err, refl, sym, ap, ◌∙◌, subst, append-nil, append_assoc, length-append, zero, suc, ◌≤◌, ◌<◌, arith, add-one}
use Rattle.std.proofs.KnownBytes.{Consumes-trans}
use Rattle.std.specs.Result.{IsErrAnd, result_from_control_flow}
use Rattle.std.specs.declared.ops.ControlFlow.{ControlFlow}
use Rattle.std.specs.declared.ops.ControlFlow.TheVariants.{Continue, Break}
use Rattle.bitstream_count.specs.declared.error.Error.{Error}
use Rattle.bitstream_count.specs.declared.error.Error.TheVariants.{Failed, OutOfMemory}
use Rattle.bitstream_count.specs.Codec.{Decoder, Prefix, Incomplete, Done, allocates_after, and_then, pure, is_whole, list_item, stores}
use Rattle.bitstream_number.specs.Word.{Order, bits, bytes_of}
use Rattle.bitstream_order.specs.Moving.Gather.{result_map}
use Rattle.bitstream_order.specs.Refusal.{TrueEnds}
use Rattle.bitstream_stream.proofs.Reading.SliceLemmas.{Reads-answer}
use Rattle.bitstream_stream.specs.Reading.ReadTable.{bytes_decoder, vec_decoder}
use Rattle.bitstream_stream.specs.Reading.Reads.{sure_answer, is_run_too_long, ReaderState, ReadDone, BitSource, Reads, ReadsGrowing, had_failed, was_done, was_refused, memory_refused}
use Rattle.bitstream_stream.proofs.Reading.CodecLemmas.{and_then-none, and_then-ok, split, word_prefix-some}
use Rattle.bitstream_stream.proofs.Reading.ReadsLemmas.{Consumes-known, Took-left, Took-nil, Took-trans, took, Behind, Behind-needs, Reads-and_then-ok, Reads-and_then-err, Reads-pure, Reads-same, none_needed, ok_prefix, parts_left}
use Rattle.bitstream_value.specs.Own.{OwnAnswer, ReadsOwn, part_then, same_error, plain_reads}
use Rattle.bitstream_value.proofs.OwnLemmas.{is_error, flatten, prefix_short, never_own, read_by}
use Rattle.bitstream_value.specs.Grows.{GrowthRefused, GrowingOutcome, by_reads, in_a_read, between_reads, GrowsOwn, MayAllocate, OwnReads, ReadLacksMemory, parts_decoder, PartsRead}
use Rattle.std.proofs.Math.Seq.{drop-append_seam}
use Rattle.std.proofs.lemmas.Bool.{eq-eqb}
use Rattle.std.proofs.lemmas.Bool.Decides.{leb_tells, nat_tests}
use Rattle.bitstream_value.specs.Array.{items_decoder}
use Rattle.bitstream_value.proofs.ArrayLemmas.{items-suc}

-- ---- after which bits a call may allocate

pub or_true : (b : Bool) → (b || true) ≡ true
or_true true = refl
or_true false = refl

module _ {A B : Type 0} (e : Decoder A) (f : A → Decoder B) where
  -- where the first of two calls may
  pub and_then-allocates : (p : ℕ) (w : List Bool) → IsTrue (e.allocates p w) → IsTrue ((and_then e f).allocates p w)
  unfolding and_then
  and_then-allocates p w asked = rw asked refl

  -- where the second may, after the first
  pub and_then-allocates_after : (p q : ℕ) (u v : List Bool) (a : A)
      → ((more : List Bool) → e.reads p (u ++ more) ≡ Done (length u) (Ok a)) → q ≡ p + length u
      → IsTrue ((f a).allocates q v) → IsTrue ((and_then e f).allocates p (u ++ v))
  unfolding and_then
  and_then-allocates_after p q u v a decides place asked =
      let here : allocates_after (e.reads p (u ++ v)) (λ n b. (f b).allocates (p + n) (drop n (u ++ v))) ≡ true =
      rw (decides v, drop-append_seam u v, ← place) asked in
      rw here (or_true (e.allocates p (u ++ v)))

never_after : {A : Type 0} (prefix : Prefix A) → allocates_after prefix (λ n a. false) ≡ false
never_after Incomplete = refl
never_after (Done n (Ok a)) = refl
never_after (Done n (Err x)) = refl

or_false : (b : Bool) → (b || false) ≡ true → b ≡ true
or_false true h = refl
or_false false h = h

-- a call whose value is then wrapped allocates where it does by itself
plain-allocates : {A : Type 0} (e : Decoder A) (p : ℕ) (w : List Bool)
    → IsTrue ((plain_reads {E = Error} e).allocates p w) → IsTrue (e.allocates p w)
unfolding and_then
plain-allocates e p w asked =
    or_false (e.allocates p w) (subst (λ b. (e.allocates p w || b) ≡ true) (never_after (e.reads p w)) asked)

-- a read into a vector may allocate while bytes are missing
vec-allocates : (o : Order) (n p : ℕ) (w : List Bool) → (vec_decoder o n).reads p w ≡ Incomplete
    → IsTrue ((vec_decoder o n).allocates p w)
unfolding bytes_decoder
vec-allocates o n p w few = elim (split (8 * n) w) [
  | inl short ↦ grind (arith, nat_tests)
  | inr s ↦
      let there : (vec_decoder o n).reads p w ≡ Done (8 * n) (Ok (bytes_of o n s.word)) =
      rw s.parts (word_prefix-some (8 * n) (λ v. Ok (bytes_of o n v)) s.word s.rest s.len) in
      cc
]

-- ---- allocations that failed

-- the same failure, as one of another call
lacks_as : {A B : Type 0} (o : Order) (d : Decoder A) (e : Decoder B) (r : Result A Error) (x : Result B Error)
    (s t : ReaderState) (h : ReadLacksMemory o d s r t) → x ≡ Err OutOfMemory
    → e.reads s.taken h.refused.word ≡ Incomplete → IsTrue (e.allocates s.taken h.refused.word)
    → ReadLacksMemory o e s x t
lacks_as o d e r x s t h is few asked = record {
  refused = record {
    fine = h.refused.fine;
    answer = is;
    word = h.refused.word;
    few = few;
    gone = h.refused.gone;
    loses = h.refused.loses;
    rest = h.refused.rest;
    parts = h.refused.parts;
    fetched = h.refused.fetched;
    taken = h.refused.taken;
    refusals = h.refused.refusals;
    references = h.refused.references;
    failed = h.refused.failed;
  };
  asked = asked;
}

-- an allocation failed here, where a call may allocate
pub growth-here : {R A : Type 0} {K : BitSource R} (e : Decoder A) (s : R) → (K.state s).failed ≡ false
    → IsTrue (e.allocates (K.state s).taken []) → GrowingOutcome K e s (Err OutOfMemory) s
growth-here {K = K} e s fine asked = between_reads (record {
  answer = refl;
  word = [];
  needs = λ prefix b back is. absurd (none_needed prefix b back is);
  asked = asked;
  took = Took-nil K.order (K.state s) fine;
})

refused-first : {A B : Type 0} (o : Order) (e : Decoder A) (f : A → Decoder B) (x : Error) (s t : ReaderState)
    → GrowthRefused o e s (Err x) t → GrowthRefused o (and_then e f) s (Err x) t
refused-first o e f x s t h = record {
  answer = let p = h.answer in cc;
  word = h.word;
  needs = λ prefix b back is. and_then-none e f s.taken prefix (h.needs prefix b back is);
  asked = and_then-allocates e f s.taken h.word h.asked;
  took = h.took;
}

-- what no beginning of two encodings decides
after_first : {A B : Type 0} (o : Order) (e : Decoder A) (f : A → Decoder B) (a : A) (s t : ReaderState)
    (h : ReadDone o e s (Ok a) t) → Behind (and_then e f) s.taken h.word (f a) t.taken
after_first o e f a s t h = record {
  needs = λ prefix b back is. and_then-none e f s.taken prefix (h.needs prefix b back is);
  short = λ more short. and_then-ok e f s.taken (h.word ++ more) (length h.word) a (h.decides more)
      ∙ rw (drop-append_seam h.word more, ← h.taken, short) refl;
}

module _ {R A B : Type 0} {K : BitSource R} (e : Decoder A) (f : A → Decoder B) where
  -- the first call was done, and then an allocation failed
  refused-behind : {a : A} {r : Result B Error} {s t z : R} → Reads K e s (Ok a) t
      → GrowthRefused K.order (f a) (K.state t) r (K.state z)
      → GrowthRefused K.order (and_then e f) (K.state s) r (K.state z)
  refused-behind {t = t} (had_failed h) k =
      let fine = k.took.fine in
      let failed : (K.state t).failed ≡ true = ap (λ (x : ReaderState). x.failed) h.same ∙ h.failed in
      cc
  refused-behind {a = a} {s = s} {t = t} {z = z} (was_done h) k = record {
    answer = k.answer;
    word = h.word ++ k.word;
    needs = Behind-needs k.word (after_first K.order e f a (K.state s) (K.state t) h) k.needs;
    asked = and_then-allocates_after e f (K.state s).taken (K.state t).taken h.word k.word a h.decides h.taken k.asked;
    took = Took-trans K.order h.word k.word (K.state s) (K.state t) (K.state z)
        (took K.order e a (K.state s) (K.state t) h) k.took;
  }
  refused-behind (was_refused h) k = let p = h.answer in cc
  refused-behind (memory_refused g h) k = cc

  -- the first call was done, and then an allocation of the second failed
  lacks-behind : {a : A} {r : Result B Error} {s t z : R} → Reads K e s (Ok a) t
      → ReadLacksMemory K.order (f a) (K.state t) r (K.state z)
      → ReadLacksMemory K.order (and_then e f) (K.state s) r (K.state z)
  lacks-behind {t = t} (had_failed h) k =
      let fine = k.refused.fine in
      let failed : (K.state t).failed ≡ true = ap (λ (x : ReaderState). x.failed) h.same ∙ h.failed in
      cc
  lacks-behind {a = a} {s = s} {t = t} {z = z} (was_done h) k =
      let o = K.order in
      let u = h.word in
      let v = k.refused.word in
      let was = took o e a (K.state s) (K.state t) h in
      record {
        refused = record {
          fine = h.fine;
          answer = k.refused.answer;
          word = u ++ v;
          few = (after_first o e f a (K.state s) (K.state t) h).short v k.refused.few;
          gone = was.gone ++ k.refused.gone;
          loses = Consumes-trans (K.state s).bytes (K.state t).bytes (K.state z).bytes was.gone k.refused.gone was.loses
              k.refused.loses;
          rest = k.refused.rest;
          parts = parts_left o (K.state s).queue (K.state t).queue u was.gone k.refused.gone was.parts
              ∙ ap (λ l. u ++ l) k.refused.parts ∙ sym (append_assoc u v k.refused.rest);
          fetched = omega (arith, was.fetched, k.refused.fetched, length-append was.gone k.refused.gone);
          taken = omega (arith, was.taken, k.refused.taken, length-append u v);
          refusals = k.refused.refusals ∙ was.refusals;
          references = k.refused.references ∙ was.references;
          failed = k.refused.failed;
        };
        asked = and_then-allocates_after e f (K.state s).taken (K.state t).taken u v a h.decides h.taken k.asked;
      }
  lacks-behind (was_refused h) k = let p = h.answer in cc
  lacks-behind (memory_refused g h) k = cc

  -- one part and then another
  pub grows-and_then-ok : {a : A} {r : Result B Error} {s t z : R} → GrowingOutcome K e s (Ok a) t
      → GrowingOutcome K (f a) t r z → GrowingOutcome K (and_then e f) s r z
  grows-and_then-ok (by_reads h) (by_reads k) = by_reads (Reads-and_then-ok e f h k)
  grows-and_then-ok {s = s} {t = t} {z = z} (by_reads h) (in_a_read k) =
      in_a_read (lacks-behind {s = s} {t = t} {z = z} h k)
  grows-and_then-ok {s = s} {t = t} {z = z} (by_reads h) (between_reads k) =
      between_reads (refused-behind {s = s} {t = t} {z = z} h k)
  grows-and_then-ok (in_a_read h) k = let p = h.refused.answer in cc
  grows-and_then-ok (between_reads h) k = let p = h.answer in cc

  -- a part that ends the call
  pub grows-and_then-err : {x : Error} {s t : R} → GrowingOutcome K e s (Err x) t → GrowingOutcome K (and_then e f) s (Err x) t
  grows-and_then-err (by_reads h) = by_reads (Reads-and_then-err e f h)
  grows-and_then-err {x = x} {s = s} {t = t} (in_a_read h) =
      in_a_read (lacks_as K.order e (and_then e f) (Err x) (Err x) (K.state s) (K.state t) h
      (let p = h.refused.answer in cc)
      (and_then-none e f (K.state s).taken h.refused.word h.refused.few)
      (and_then-allocates e f (K.state s).taken h.refused.word h.asked))
  grows-and_then-err {x = x} {s = s} {t = t} (between_reads h) =
      between_reads (refused-first K.order e f x (K.state s) (K.state t) h)

-- a call that returned a value on a reader that goes on
still_fine : {R A : Type 0} {K : BitSource R} {e : Decoder A} {a : A} {s t : R} → e.on_failed ≡ Err Failed
    → GrowingOutcome K e s (Ok a) t → (K.state t).failed ≡ false
still_fine failed (by_reads h) = (ok_prefix failed h).failed
still_fine failed (in_a_read h) = let p = h.refused.answer in cc
still_fine failed (between_reads h) = let p = h.answer in cc

-- ---- calls of a function with errors of its own

-- an outcome that asks for no memory is one that may
pub grown : {R A : Type 0} {K : BitSource R} {e : Decoder A} {r : Result A Error} {s t : R} → Reads K e s r t
    → GrowingOutcome K e s r t
grown h = by_reads h

-- a read into a vector
vec-by : {R : Type 0} {K : BitSource R} (o : Order) (n : ℕ) (r : Result (List ℕ) Error) (s t : R)
    → ReadsGrowing K (vec_decoder o n) s r t → GrowingOutcome K (vec_decoder o n) s r t
vec-by o n r s t (had_failed h) = by_reads (had_failed h)
vec-by o n r s t (was_done h) = by_reads (was_done h)
vec-by o n r s t (was_refused h) = by_reads (was_refused h)
vec-by {K = K} o n r s t (memory_refused g h) =
    in_a_read (record { refused = h; asked = vec-allocates o n (K.state s).taken h.word h.few })

pub vec-grown : {R : Type 0} {K : BitSource R} (o : Order) (n : ℕ) {r : Result (List ℕ) Error} {s t : R}
    → ReadsGrowing K (bytes_decoder o n) s r t → GrowingOutcome K (vec_decoder o n) s r t
vec-grown o n {r = r} {s = s} {t = t} h =
    vec-by o n r s t (Reads-same (record { reads = λ p b. refl; on_failed = refl }) h)

pub if_grown : {R A E : Type 0} {K : BitSource R} {becomes : Error → E → Type 0} {e : Decoder (Result A E)}
    {r : Result A E} {s t : R} (grows : Bool) → OwnReads grows K becomes e s r t → GrowsOwn K becomes e s r t
if_grown true h = h
if_grown false h = record { plain = h.plain; called = grown h.called; answer = h.answer }

-- an allocation failed here, where a call may allocate
pub own_refused : {R A E : Type 0} {K : BitSource R} {becomes : Error → E → Type 0} (e : Decoder (Result A E))
    (r : Result A E) (s : R) → (K.state s).failed ≡ false → IsTrue (e.allocates (K.state s).taken [])
    → IsErrAnd r (becomes OutOfMemory) → GrowsOwn K becomes e s r s
own_refused e r s fine asked is = record { plain = Err OutOfMemory; called = growth-here e s fine asked; answer = is }

module _ {R A B E : Type 0} {K : BitSource R} {becomes : Error → E → Type 0} {e : Decoder A} (f : A
    → Decoder (Result B E)) {r : Result B E} {s t : R} where
  pub go_grown : {z : R} {a : A} → GrowingOutcome K e s (Ok a) t → GrowsOwn K becomes (f a) t r z
      → GrowsOwn K becomes (and_then e f) s r z
  go_grown h k = record { plain = k.plain; called = grows-and_then-ok e f h k.called; answer = k.answer }

  pub stop_grown : {x : Error} → GrowingOutcome K e s (Err x) t → IsErrAnd r (becomes x)
      → GrowsOwn K becomes (and_then e f) s r t
  stop_grown {x = x} h k = record { plain = Err x; called = grows-and_then-err e f h; answer = k }

  -- a read whose result a `?` checked, and what follows it, or the end
  pub then_grown_read : {z : R} {a : A} {answer : Result A Error} {flow : ControlFlow _ A} → Reads K e s answer t
      → answer ≡ result_from_control_flow flow → flow ≡ Continue a → GrowsOwn K becomes (f a) t r z
      → GrowsOwn K becomes (and_then e f) s r z
  then_grown_read h p q k = go_grown (grown (subst (λ x. Reads K e s x t) (p ∙ ap result_from_control_flow q) h)) k

  pub end_grown_read : {answer : Result A Error} {flow : ControlFlow _ A} {x : _} → Reads K e s answer t
      → answer ≡ result_from_control_flow flow → flow ≡ Break x → IsErrAnd r (becomes x.0)
      → GrowsOwn K becomes (and_then e f) s r t
  end_grown_read h p q k = stop_grown (grown (subst (λ x. Reads K e s x t) (p ∙ ap result_from_control_flow q) h)) k

-- a read into a vector, whose result is seen by a view
module _ {R B E : Type 0} {K : BitSource R} {becomes : Error → E → Type 0} (o : Order) (n : ℕ) (f : List ℕ
    → Decoder (Result B E)) {r : Result B E} {s t : R} where
  pub then_growing : {V : Type 0} (view : V → List ℕ) {z : R} {v : V} {answer : Result V Error} {flow : ControlFlow _ V}
      → ReadsGrowing K (bytes_decoder o n) s (result_map view answer) t → answer ≡ result_from_control_flow flow
      → flow ≡ Continue v → GrowsOwn K becomes (f (view v)) t r z → GrowsOwn K becomes (and_then (vec_decoder o n) f) s r z
  then_growing view h p q k =
      go_grown f (vec-grown o n (subst (λ x. ReadsGrowing K (bytes_decoder o n) s (result_map view x) t)
      (p ∙ ap result_from_control_flow q) h)) k

  pub end_growing : {V : Type 0} (view : V → List ℕ) {answer : Result V Error} {flow : ControlFlow _ V} {x : _}
      → ReadsGrowing K (bytes_decoder o n) s (result_map view answer) t → answer ≡ result_from_control_flow flow
      → flow ≡ Break x → IsErrAnd r (becomes x.0) → GrowsOwn K becomes (and_then (vec_decoder o n) f) s r t
  end_growing view h p q k =
      stop_grown f (vec-grown o n (subst (λ x. ReadsGrowing K (bytes_decoder o n) s (result_map view x) t)
      (p ∙ ap result_from_control_flow q) h)) k

-- the result after all reads: a value, or an error of the type's own
pub grown_end : {R A E : Type 0} {K : BitSource R} {becomes : Error → E → Type 0} (r : Result A E) (s : R)
    → GrowsOwn K becomes (pure r) s r s
grown_end r s = record { plain = Ok r; called = by_reads (Reads-pure r s); answer = refl }

-- ---- parts that have the same errors of their own; each says for itself whether it grows

part_stops : {R A B E : Type 0} {K : BitSource R} {becomes : Error → E → Type 0} {e : Decoder (Result A E)} (f : A
    → Decoder (Result B E)) {r : Result B E} {s t : R} (error : E) (plain : Result (Result A E) Error)
    → r ≡ Err error → GrowingOutcome K e s plain t → OwnAnswer becomes (λ x. x) plain (Err error)
    → GrowsOwn K becomes (and_then e (part_then f)) s r t
part_stops {K = K} {e = e} f {s = s} {t = t} error (Ok x) is h own =
    record {
      plain = Ok (Err error);
      called = grows-and_then-ok e (part_then f)
          (subst (λ y. GrowingOutcome K e s (Ok y) t) (sym own) h) (by_reads (Reads-pure (Err error) t));
      answer = is;
    }
part_stops {becomes = becomes} {e = e} f error (Err x) is h own =
    record {
      plain = Err x;
      called = grows-and_then-err e (part_then f) h;
      answer = subst (λ y. IsErrAnd y (becomes x)) (sym is) own;
    }

part_goes : {R A B E : Type 0} {K : BitSource R} {becomes : Error → E → Type 0} {e : Decoder (Result A E)} (f : A
    → Decoder (Result B E)) {r : Result B E} {s t z : R} (a : A) (plain : Result (Result A E) Error)
    → GrowingOutcome K e s plain t → OwnAnswer becomes (λ x. x) plain (Ok a) → GrowsOwn K becomes (f a) t r z
    → GrowsOwn K becomes (and_then e (part_then f)) s r z
part_goes {K = K} {e = e} f {s = s} {t = t} a (Ok x) h own k =
    record {
      plain = k.plain;
      called = grows-and_then-ok e (part_then f) (subst (λ y. GrowingOutcome K e s (Ok y) t) (sym own) h) k.called;
      answer = k.answer;
    }
part_goes f a (Err x) h own k = absurd own

module _ {R A B E : Type 0} {K : BitSource R} {becomes : Error → E → Type 0} {e : Decoder (Result A E)} (f : A
    → Decoder (Result B E)) {r : Result B E} {s t : R} {answer : Result A E} {flow : ControlFlow _ A} where
  pub then_growing_part : {z : R} {a : A} → GrowsOwn K becomes e s answer t → answer ≡ result_from_control_flow flow
      → flow ≡ Continue a → GrowsOwn K becomes (f a) t r z → GrowsOwn K becomes (and_then e (part_then f)) s r z
  then_growing_part {a = a} h p q k =
      let there = subst (λ x. GrowsOwn K becomes e s x t) (p ∙ ap result_from_control_flow q) h in
      part_goes f a there.plain there.called there.answer k

  pub end_growing_part : {x : _} → GrowsOwn K becomes e s answer t → answer ≡ result_from_control_flow flow → flow
      ≡ Break x → IsErrAnd r (λ y. y ≡ x.0) → GrowsOwn K becomes (and_then e (part_then f)) s r t
  end_growing_part {x = x} h p q k =
      let there = subst (λ y. GrowsOwn K becomes e s y t) (p ∙ ap result_from_control_flow q) h in
      part_stops f x.0 there.plain (is_error r x.0 k) there.called there.answer

  -- a part that does not grow
  pub then_grown_part : {z : R} {a : A} → ReadsOwn K becomes e s answer t → answer ≡ result_from_control_flow flow
      → flow ≡ Continue a → GrowsOwn K becomes (f a) t r z → GrowsOwn K becomes (and_then e (part_then f)) s r z
  then_grown_part h p q k = then_growing_part (if_grown false h) p q k

  pub end_grown_part : {x : _} → ReadsOwn K becomes e s answer t → answer ≡ result_from_control_flow flow → flow
      ≡ Break x → IsErrAnd r (λ y. y ≡ x.0) → GrowsOwn K becomes (and_then e (part_then f)) s r t
  end_grown_part h p q k = end_growing_part (if_grown false h) p q k

pub ruleset few_growing_reads = (
  then_grown_read,
  end_grown_read,
  then_growing,
  end_growing,
  then_growing_part,
  end_growing_part,
  then_grown_part,
  end_grown_part,
  grown_end,
)

-- ---- items that are read in a loop, and pushed

pub nat_le_split : (k n : ℕ) → k ≤ n → (k ≡ n) ⊎ (k < n)
nat_le_split k n le = elim (leb_tells n k) [
  | inl h ↦ let p : n ≤ k = h.1 in inl (omega (arith, p, le))
  | inr h ↦ let p : k < n = h.1 in inr p
]

-- an item was read, and then storing it found no memory
item-refused : {R A : Type 0} {K : BitSource R} (e : Decoder A) (a : A) (s t : R) → e.on_failed ≡ Err Failed
    → Reads K e s (Ok a) t → GrowingOutcome K (list_item e) s (Err OutOfMemory) t
item-refused {K = K} e a s t failed read =
    let h = ok_prefix failed read in
    let p = (K.state s).taken in
    let is : e.reads p h.word ≡ Done (length h.word) (Ok a) = ap (e.reads p) (sym (append-nil h.word)) ∙ h.decides [] in
    let whole : is_whole (e.reads p h.word) h.word ≡ true = rw is (eq-eqb (length h.word) (length h.word) refl) in
    between_reads (record {
      answer = refl;
      word = h.word;
      needs = h.needs;
      asked = rw whole (or_true (e.allocates p h.word));
      took = took K.order e a (K.state s) (K.state t) h;
    })

module _ {R A : Type 0} {K : BitSource R} (e : Decoder A) where
  -- some of the items were read, and then an allocation failed
  items-lack : (k all : ℕ) (s t : R) → GrowingOutcome K (items_decoder e k) s (Err OutOfMemory) t
      → (k ≡ all) ⊎ (k < all) → GrowingOutcome K (items_decoder e all) s (Err OutOfMemory) t
  items-lack k all s t h (inl is) = subst (λ n. GrowingOutcome K (items_decoder e n) s (Err OutOfMemory) t) is h
  items-lack k zero s t h (inr less) = absurd (omega (arith, less))
  items-lack k (suc n) s t h (inr less) =
      rw (items-suc e n) (grows-and_then-err (items_decoder e n) _
      (items-lack k n s t h (nat_le_split k n (omega (arith, less)))))

-- an item is read as one that is stored
pub item-read : {R A : Type 0} {K : BitSource R} {e : Decoder A} {r : Result A Error} {s t : R} → Reads K e s r t
    → Reads K (list_item e) s r t
item-read h = Reads-same (record { reads = λ p b. refl; on_failed = refl }) h

-- k items were read and stored, and one more was read, for which no memory was found
pub items-refused : {R A : Type 0} {K : BitSource R} (e : Decoder A) (k all : ℕ) {xs : List A} {a : A} {s t z : R}
    → e.on_failed ≡ Err Failed → k < all → Reads K (items_decoder (list_item e) k) s (Ok xs) t → Reads K e t (Ok a) z
    → GrowingOutcome K (items_decoder (list_item e) all) s (Err OutOfMemory) z
items-refused {K = K} e k all {a = a} {s = s} {t = t} {z = z} failed less h read =
    let next : GrowingOutcome K (items_decoder (list_item e) (suc k)) s (Err OutOfMemory) z =
    rw (items-suc (list_item e) k) (grows-and_then-ok (items_decoder (list_item e) k) _ (by_reads h)
    (grows-and_then-err (list_item e) _ (item-refused e a t z failed read))) in
    items-lack (list_item e) (suc k) all s z next (nat_le_split (suc k) all (omega (arith, less)))

-- an error, seen by a view of the values
pub is_map_err : {A V E : Type 0} (view : A → V) (P : E → Type 0) (r : Result A E) → IsErrAnd r P
    → IsErrAnd (result_map view r) P
is_map_err view P (Ok a) h = absurd h
is_map_err view P (Err x) h = h

-- ---- parts that are read in a loop, and pushed

module _ {R A B E : Type 0} {K : BitSource R} {becomes : Error → E → Type 0} {e : Decoder (Result A E)} (f : A
    → Decoder (Result B E)) {r : Result B E} {s t : R} where
  pub part_go : {z : R} {a : A} → GrowsOwn K becomes e s (Ok a) t → GrowsOwn K becomes (f a) t r z
      → GrowsOwn K becomes (and_then e (part_then f)) s r z
  part_go {a = a} h k = part_goes f a h.plain h.called h.answer k

  pub part_stop : {x : E} → GrowsOwn K becomes e s (Err x) t → r ≡ Err x
      → GrowsOwn K becomes (and_then e (part_then f)) s r t
  part_stop {x = x} h is = part_stops f x h.plain is h.called h.answer

parts-suc : {A E : Type 0} (e : Decoder (Result A E)) (n : ℕ) → parts_decoder e (suc n)
    ≡ and_then (parts_decoder e n) (part_then (λ xs. and_then e (part_then (λ x. stores (Ok (xs ++ x ∷ []))))))
unfolding parts_decoder
parts-suc e n = refl

-- a value that was stored, after all reads
stored_end : {R A E : Type 0} {K : BitSource R} {becomes : Error → E → Type 0} (r : Result A E) (s : R)
    → GrowsOwn K becomes (stores r) s r s
stored_end r s = record {
  plain = Ok r;
  called = by_reads (Reads-same (record { reads = λ p b. refl; on_failed = refl }) (Reads-pure r s));
  answer = refl;
}

part_fine : {R A E : Type 0} {K : BitSource R} (becomes : Error → E → Type 0) {e : Decoder (Result A E)} {s t : R}
    (a : A) (plain : Result (Result A E) Error) → e.on_failed ≡ Err Failed → GrowingOutcome K e s plain t
    → OwnAnswer becomes (λ x. x) plain (Ok a) → (K.state t).failed ≡ false
part_fine becomes a (Ok v) failed h is = still_fine failed h
part_fine becomes a (Err x) failed h is = absurd is

module _ {R A E : Type 0} {K : BitSource R} {becomes : Error → E → Type 0} (e : Decoder (Result A E)) where
  -- none yet
  pub parts-begin : {xs : List A} {s : R} → xs ≡ [] → PartsRead K becomes e 0 s xs s
  unfolding parts_decoder
  parts-begin {s = s} none = rw none (grown_end (Ok []) s)

  -- one more, pushed after the others
  pub parts-push : (n : ℕ) {xs ys : List A} {x : A} {s t z : R} → ys ≡ xs ++ x ∷ [] → PartsRead K becomes e n s xs t
      → GrowsOwn K becomes e t (Ok x) z → PartsRead K becomes e (n + 1) s ys z
  parts-push n {s = s} {z = z} is h k =
      rw (add-one n, parts-suc e n, is) (part_go _ h (part_go _ k (stored_end _ z)))

  later : (k all : ℕ) (y : E) (s t : R) → GrowsOwn K becomes (parts_decoder e k) s (Err y) t → (k ≡ all) ⊎ (k < all)
      → GrowsOwn K becomes (parts_decoder e all) s (Err y) t
  later k all y s t h (inl is) = subst (λ n. GrowsOwn K becomes (parts_decoder e n) s (Err y) t) is h
  later k zero y s t h (inr less) = absurd (omega (arith, less))
  later k (suc n) y s t h (inr less) =
      rw (parts-suc e n) (part_stop _ (later k n y s t h (nat_le_split k n (omega (arith, less)))) refl)

  -- one whose error a `?` returned
  pub parts-stop : (n all : ℕ) {xs : List A} {x : E} {s t z : R} → n < all → PartsRead K becomes e n s xs t
      → GrowsOwn K becomes e t (Err x) z → GrowsOwn K becomes (parts_decoder e all) s (Err x) z
  parts-stop n all {x = x} {s = s} {z = z} more h k =
      let here : GrowsOwn K becomes (parts_decoder e (suc n)) s (Err x) z =
      rw (parts-suc e n) (part_go _ h (part_stop _ k refl)) in
      later (suc n) all x s z here (nat_le_split (suc n) all (omega (arith, more)))

  -- k parts were read and stored, and one more was read, for which no memory was found
  pub parts-refused : (k all : ℕ) {xs : List A} {x : A} {y : E} {s t z : R} → e.on_failed ≡ Err Failed → k < all
      → PartsRead K becomes e k s xs t → GrowsOwn K becomes e t (Ok x) z → becomes OutOfMemory y
      → GrowsOwn K becomes (parts_decoder e all) s (Err y) z
  parts-refused k all {xs = xs} {x = x} {y = y} {s = s} {z = z} failed less h read own =
      let fine = part_fine becomes x read.plain failed read.called read.answer in
      let last = own_refused {becomes = becomes} (stores (Ok (xs ++ x ∷ []))) (Err y) z fine refl own in
      let next : GrowsOwn K becomes (parts_decoder e (suc k)) s (Err y) z =
      rw (parts-suc e k) (part_go _ h (part_go _ read last)) in
      later (suc k) all y s z next (nat_le_split (suc k) all (omega (arith, less)))

pub grown_is : {R A E : Type 0} {K : BitSource R} {becomes : Error → E → Type 0} {x r : Result A E} {s : R} → x ≡ r
    → GrowsOwn K becomes (pure x) s r s
grown_is {x = x} {s = s} is = rw (sym is) (grown_end x s)

-- ---- what is returned over a stream that fails only at the end of input: the prefix's result or the end, or that an
-- allocation failed

-- all bits left begin with the encoding that a call took until an allocation failed
lacks_left : {A : Type 0} (o : Order) (e : Decoder A) (r : Result A Error) (s t : ReaderState)
    → ReadLacksMemory o e s r t → (xs : List ℕ) → s.bytes ≡ Some xs → MayAllocate e s.taken (s.queue ++ bits o xs)
lacks_left o e r s t h xs known =
    let lost = Consumes-known s.bytes t.bytes h.refused.gone xs h.refused.loses known in
    record {
      prefix = h.refused.word;
      back = h.refused.rest ++ bits o lost.0;
      parts = ap (λ l. s.queue ++ bits o l) lost.2
          ∙ parts_left o s.queue h.refused.rest h.refused.word h.refused.gone lost.0 h.refused.parts;
      asked = h.asked;
    }

grown_left : {A : Type 0} (o : Order) (e : Decoder A) (r : Result A Error) (s t : ReaderState)
    → GrowthRefused o e s r t → (xs : List ℕ) → s.bytes ≡ Some xs → MayAllocate e s.taken (s.queue ++ bits o xs)
grown_left o e r s t h xs known =
    let left = Took-left o h.word s t h.took xs known in
    record { prefix = h.word; back = t.queue ++ bits o left.0; parts = left.2; asked = h.asked }

pub grown-answer : {R A : Type 0} {K : BitSource R} {e : Decoder A} {r : Result A Error} {s t : R} → TrueEnds K.may
    → (xs : List ℕ) → (K.state s).failed ≡ false → (K.state s).bytes ≡ Some xs → GrowingOutcome K e s r t
    → (r ≡ sure_answer (e.reads (K.state s).taken ((K.state s).queue ++ bits K.order xs)))
    ⊎ ((r ≡ Err OutOfMemory) × MayAllocate e (K.state s).taken ((K.state s).queue ++ bits K.order xs))
grown-answer {K = K} {e = e} {r = r} {s = s} {t = t} ends xs fine known (by_reads h) =
    inl (Reads-answer {K = K} {e = e} {r = r} {s = s} {t = t} ends xs fine known h)
grown-answer {K = K} {e = e} {r = r} {s = s} {t = t} ends xs fine known (in_a_read h) =
    inr (h.refused.answer, lacks_left K.order e r (K.state s) (K.state t) h xs known)
grown-answer {K = K} {e = e} {r = r} {s = s} {t = t} ends xs fine known (between_reads h) =
    inr (h.answer, grown_left K.order e r (K.state s) (K.state t) h xs known)

pub own_grown-answer : {R A E : Type 0} {K : BitSource R} {becomes : Error → E → Type 0} {e : Decoder (Result A E)}
    {r : Result A E} {s t : R} → TrueEnds K.may → (xs : List ℕ) → (K.state s).failed ≡ false
    → (K.state s).bytes ≡ Some xs → GrowsOwn K becomes e s r t
    → OwnAnswer becomes (λ x. x) (sure_answer (e.reads (K.state s).taken ((K.state s).queue ++ bits K.order xs))) r
    ⊎ (IsErrAnd r (becomes OutOfMemory) × MayAllocate e (K.state s).taken ((K.state s).queue ++ bits K.order xs))
own_grown-answer {K = K} {becomes = becomes} {e = e} {r = r} {s = s} {t = t} ends xs fine known h = elim (grown-answer {s = s} {t = t} ends xs fine known h.called) [
  | inl is ↦ inl (subst (λ z. OwnAnswer becomes (λ x. x) z r) is h.answer)
  | inr lack ↦ inr (subst (λ z. OwnAnswer becomes (λ x. x) z r) lack.0 h.answer, lack.1)
]

-- ---- reads that have no error but the reader's, in a function whose errors are of another type

module _ {R A : Type 0} (K : BitSource R) (e : Decoder A) (s t : R) where
  never_grown : (y : Error) → GrowingOutcome K (plain_reads {E = Error} e) s (Ok (Err y)) t → ⊥
  never_grown y (by_reads h) = never_own K e s t y h
  never_grown y (in_a_read h) = let p = h.refused.answer in cc
  never_grown y (between_reads h) = let p = h.answer in cc

  grow_by : (plain : Result (Result A Error) Error) → is_run_too_long (flatten plain) ≡ is_run_too_long plain
      → GrowingOutcome K (plain_reads e) s plain t → GrowingOutcome K e s (flatten plain) t
  unfolding and_then
  grow_by plain long (by_reads h) = by_reads (read_by K e s t plain long h)
  grow_by plain long (in_a_read h) =
      in_a_read (lacks_as K.order (plain_reads e) e plain (flatten plain) (K.state s) (K.state t) h
      (ap flatten h.refused.answer) (prefix_short (e.reads (K.state s).taken h.refused.word) h.refused.few)
      (plain-allocates e (K.state s).taken h.refused.word h.asked))
  grow_by plain long (between_reads h) = between_reads (record {
    answer = ap flatten h.answer;
    word = h.word;
    needs = λ prefix b back is. prefix_short (e.reads (K.state s).taken prefix) (h.needs prefix b back is);
    asked = plain-allocates e (K.state s).taken h.word h.asked;
    took = h.took;
  })

  grow_of : (plain : Result (Result A Error) Error) (r : Result A Error) → GrowingOutcome K (plain_reads e) s plain t
      → OwnAnswer same_error (λ x. x) plain r → GrowingOutcome K e s r t
  grow_of (Ok (Ok a)) r h is = subst (λ x. GrowingOutcome K e s x t) (sym is) (grow_by (Ok (Ok a)) refl h)
  grow_of (Ok (Err y)) r h is = absurd (never_grown y h)
  grow_of (Err x) r h is = subst (λ y. GrowingOutcome K e s y t) (sym (is_error r x is)) (grow_by (Err x) refl h)

  -- reads of a type that grows and has no error but the reader's are such reads
  pub grow_plainly : (r : Result A Error) → GrowsOwn K same_error (plain_reads e) s r t → GrowingOutcome K e s r t
  grow_plainly r h = grow_of h.plain r h.called h.answer
