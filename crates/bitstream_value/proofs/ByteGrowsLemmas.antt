-- Reads of whole bytes in a function that asks for memory of its own.
use Rattle.std.proofs.Common.{Continue, Break, ◌≡◌, ℕ, zero, suc, ◌+◌, ◌^◌, ◌*◌, ◌<◌, ◌≤◌, ◌⊎◌, inl, inr, true, false, ◌||◌, IsTrue, List, [], ◌∷◌, ◌++◌, length, take, drop, Result, Ok, Err, refl, sym, ap, ◌∙◌, subst, arith, add-one}
use Rattle.std.specs.Result.{IsErrAnd, result_from_control_flow}
use Rattle.std.specs.declared.ops.ControlFlow.{ControlFlow}
use Rattle.bitstream_count.specs.declared.error.Error.{Error}
use Rattle.bitstream_count.specs.declared.error.Error.TheVariants.{OutOfMemory}
use Rattle.bitstream_count.specs.Codec.{Incomplete, Done, allocates_after}
use Rattle.std.proofs.Math.Seq.{drop-append_seam}
use Rattle.std.proofs.lemmas.Bool.{le-leb, cases_lt}
use Rattle.std.proofs.lemmas.Bool.Decides.{nat_tests}
use Rattle.bitstream_number.specs.Word.{Order}
use Rattle.bitstream_order.specs.Moving.Gather.{result_map}
use Rattle.bitstream_stream.specs.WholeBytes.ByteReads.{ByteSource, ByteDecoder, ByteReads, ByteReadsGrowing, given_bytes, vec_bytes, was_done, was_refused, memory_refused}
use Rattle.bitstream_stream.proofs.WholeBytes.ByteReadsLemmas.{bytes_none, bytes_took}
use Rattle.bitstream_value.specs.ByteGrows.{ByteGrowthRefused, ByteGrowingOutcome, ByteReadLacksMemory, by_reads, in_a_read, between_reads, ByteGrowsOwn, byte_part_then, byte_parts, BytePartsRead}
use Rattle.bitstream_value.specs.ByteSteps.{number_bytes}
use Rattle.bitstream_value.specs.ByteTypes.{byte_and_then, byte_pure, byte_stores}
use Rattle.bitstream_value.specs.Own.{OwnAnswer}
use Rattle.bitstream_value.proofs.ByteSteps.{and_then_reads, and_then_stops, and_then-none, and_then-ok, and_then-needs, both_taken, none_needed, nothing_read, bytes_in, number_read, number_stops}
use Rattle.bitstream_value.proofs.GrowsLemmas.{nat_le_split, or_true}
use Rattle.bitstream_value.proofs.OwnLemmas.{is_error}

-- ---- after which bytes a call may allocate

module _ {A B : Type 0} (e : ByteDecoder A) (f : A → ByteDecoder B) where
  -- where the first of two calls may
  byte_and_then-allocates : (w : List ℕ) → IsTrue (e.allocates w) → IsTrue ((byte_and_then e f).allocates w)
  unfolding byte_and_then
  byte_and_then-allocates w asked = rw asked refl

  -- where the second may, after the first
  byte_and_then-allocates_after : (u v : List ℕ) (a : A)
      → ((more : List ℕ) → e.reads (u ++ more) ≡ Done (length u) (Ok a)) → IsTrue ((f a).allocates v)
      → IsTrue ((byte_and_then e f).allocates (u ++ v))
  unfolding byte_and_then
  byte_and_then-allocates_after u v a decides asked =
      let here : allocates_after (e.reads (u ++ v)) (λ n b. (f b).allocates (drop n (u ++ v))) ≡ true =
      rw (decides v, drop-append_seam u v) asked in
      rw here (or_true (e.allocates (u ++ v)))

-- a read into a vector may allocate while bytes are missing
vec_bytes-allocates : (n : ℕ) (w : List ℕ) → (vec_bytes n).reads w ≡ Incomplete → IsTrue ((vec_bytes n).allocates w)
unfolding given_bytes
vec_bytes-allocates n w few = elim (cases_lt (length w) n) [
  | inl short ↦ grind (arith, nat_tests)
  | inr long ↦
      let there : (vec_bytes n).reads w ≡ Done n (Ok (take n w)) = rw (le-leb n (length w) long) refl in
      cc
]

-- ---- allocations that failed

-- an allocation failed here, where a call may allocate
pub bytes-growth-here : {R A : Type 0} {K : ByteSource R} (e : ByteDecoder A) (s : R) → IsTrue (e.allocates [])
    → ByteGrowingOutcome K e s (Err OutOfMemory) s
bytes-growth-here {K = K} e s asked = between_reads (record {
  answer = refl;
  bytes = [];
  needs = λ prefix b back is. absurd (none_needed prefix b back is);
  asked = asked;
  took = (bytes_took 0 [] s s (bytes_none {K = K} {grows = false} s)).0;
})

-- a read that asks for no memory is one that may
pub bytes_grown : {R A : Type 0} {K : ByteSource R} {e : ByteDecoder A} {r : Result A Error} {s t : R}
    → ByteReads K e s r t → ByteGrowingOutcome K e s r t
bytes_grown h = by_reads h

-- a read into a vector
vec_bytes-by : {R : Type 0} {K : ByteSource R} (n : ℕ) (r : Result (List ℕ) Error) (s t : R)
    → ByteReadsGrowing K (given_bytes n) s r t → ByteGrowingOutcome K (vec_bytes n) s r t
vec_bytes-by n r s t (was_done h) = by_reads (was_done (record {
  bytes = h.bytes;
  decides = h.decides;
  needs = h.needs;
  took = h.took;
}))
vec_bytes-by n r s t (was_refused h) = by_reads (was_refused (record {
  refusal = h.refusal;
  allowed = h.allowed;
  answer = h.answer;
  gone = h.gone;
  loses = h.loses;
  after = h.after;
  taken = h.taken;
  few = h.few;
  ended = h.ended;
  refusals = h.refusals;
  references = h.references;
}))
vec_bytes-by n r s t (memory_refused g h) = in_a_read (record {
  refused = record { answer = h.answer; bytes = h.bytes; few = h.few; took = h.took };
  asked = vec_bytes-allocates n h.bytes h.few;
})

pub vec_bytes-grown : {R : Type 0} {K : ByteSource R} (n : ℕ) {r : Result (List ℕ) Error} {s t : R}
    → ByteReadsGrowing K (given_bytes n) s r t → ByteGrowingOutcome K (vec_bytes n) s r t
vec_bytes-grown n {r = r} {s = s} {t = t} h = vec_bytes-by n r s t h

module _ {R A B : Type 0} {K : ByteSource R} (e : ByteDecoder A) (f : A → ByteDecoder B) where
  behind : {a : A} {r : Result B Error} {s t z : R} → ByteReads K e s (Ok a) t
      → ByteGrowthRefused (f a) (K.state t) r (K.state z) → ByteGrowthRefused (byte_and_then e f) (K.state s) r (K.state z)
  behind {a = a} {s = s} {t = t} {z = z} (was_done h) k = record {
    answer = k.answer;
    bytes = h.bytes ++ k.bytes;
    needs = and_then-needs e f h.bytes k.bytes a h.decides h.needs k.needs;
    asked = byte_and_then-allocates_after e f h.bytes k.bytes a h.decides k.asked;
    took = both_taken K h.bytes k.bytes s t z h.took k.took;
  }
  behind (was_refused h) k = let p = h.answer in cc
  behind (memory_refused g h) k = cc

  lacks_behind : {a : A} {r : Result B Error} {s t z : R} → ByteReads K e s (Ok a) t
      → ByteReadLacksMemory (f a) (K.state t) r (K.state z)
      → ByteReadLacksMemory (byte_and_then e f) (K.state s) r (K.state z)
  lacks_behind {a = a} {s = s} {t = t} {z = z} (was_done h) k =
      let more = k.refused.bytes in
      record {
        refused = record {
          answer = k.refused.answer;
          bytes = h.bytes ++ more;
          few = and_then-ok e f h.bytes more a Incomplete (h.decides more) k.refused.few;
          took = both_taken K h.bytes more s t z h.took k.refused.took;
        };
        asked = byte_and_then-allocates_after e f h.bytes more a h.decides k.asked;
      }
  lacks_behind (was_refused h) k = let p = h.answer in cc
  lacks_behind (memory_refused g h) k = cc

  -- one part and then another
  pub bytes-grow-ok : {a : A} {r : Result B Error} {s t z : R} → ByteGrowingOutcome K e s (Ok a) t
      → ByteGrowingOutcome K (f a) t r z → ByteGrowingOutcome K (byte_and_then e f) s r z
  bytes-grow-ok (by_reads h) (by_reads k) = by_reads (and_then_reads e f h k)
  bytes-grow-ok {s = s} {t = t} {z = z} (by_reads h) (in_a_read k) =
      in_a_read (lacks_behind {s = s} {t = t} {z = z} h k)
  bytes-grow-ok {s = s} {t = t} {z = z} (by_reads h) (between_reads k) =
      between_reads (behind {s = s} {t = t} {z = z} h k)
  bytes-grow-ok (in_a_read h) k = let p = h.refused.answer in cc
  bytes-grow-ok (between_reads h) k = let p = h.answer in cc

  -- a part that ends the call
  pub bytes-grow-err : {x : Error} {s t : R} → ByteGrowingOutcome K e s (Err x) t
      → ByteGrowingOutcome K (byte_and_then e f) s (Err x) t
  bytes-grow-err (by_reads h) = by_reads (and_then_stops e f h)
  bytes-grow-err {x = x} (in_a_read h) = in_a_read (record {
    refused = record {
      answer = let p = h.refused.answer in cc;
      bytes = h.refused.bytes;
      few = and_then-none e f h.refused.bytes h.refused.few;
      took = h.refused.took;
    };
    asked = byte_and_then-allocates e f h.refused.bytes h.asked;
  })
  bytes-grow-err {x = x} (between_reads h) = between_reads (record {
    answer = let p = h.answer in cc;
    bytes = h.bytes;
    needs = λ prefix b back is. and_then-none e f prefix (h.needs prefix b back is);
    asked = byte_and_then-allocates e f h.bytes h.asked;
    took = h.took;
  })

-- ---- calls of a function with errors of its own

module _ {R A B E : Type 0} {K : ByteSource R} {becomes : Error → E → Type 0} {e : ByteDecoder A} (f : A
    → ByteDecoder (Result B E)) {r : Result B E} {s t : R} where
  pub go_grown_bytes : {z : R} {a : A} → ByteGrowingOutcome K e s (Ok a) t → ByteGrowsOwn K becomes (f a) t r z
      → ByteGrowsOwn K becomes (byte_and_then e f) s r z
  go_grown_bytes h k = record { plain = k.plain; called = bytes-grow-ok e f h k.called; answer = k.answer }

  pub stop_grown_bytes : {x : Error} → ByteGrowingOutcome K e s (Err x) t → IsErrAnd r (becomes x)
      → ByteGrowsOwn K becomes (byte_and_then e f) s r t
  stop_grown_bytes {x = x} h k = record { plain = Err x; called = bytes-grow-err e f h; answer = k }

  -- a read whose result a `?` checked, and what follows it, or the end
  pub then_grown_bytes : {z : R} {a : A} {answer : Result A Error} {flow : ControlFlow _ A} → ByteReads K e s answer t
      → answer ≡ result_from_control_flow flow → flow ≡ Continue a → ByteGrowsOwn K becomes (f a) t r z
      → ByteGrowsOwn K becomes (byte_and_then e f) s r z
  then_grown_bytes h p q k =
      go_grown_bytes (bytes_grown (subst (λ x. ByteReads K e s x t) (p ∙ ap result_from_control_flow q) h)) k

  pub end_grown_bytes : {answer : Result A Error} {flow : ControlFlow _ A} {x : _} → ByteReads K e s answer t
      → answer ≡ result_from_control_flow flow → flow ≡ Break x → IsErrAnd r (becomes x.0)
      → ByteGrowsOwn K becomes (byte_and_then e f) s r t
  end_grown_bytes h p q k =
      stop_grown_bytes (bytes_grown (subst (λ x. ByteReads K e s x t) (p ∙ ap result_from_control_flow q) h)) k

-- a read into a vector, whose result is seen by a view
module _ {R B E : Type 0} {K : ByteSource R} {becomes : Error → E → Type 0} (n : ℕ) (f : List ℕ
    → ByteDecoder (Result B E)) {r : Result B E} {s t : R} where
  pub then_growing_bytes : {V : Type 0} (view : V → List ℕ) {z : R} {v : V} {answer : Result V Error}
      {flow : ControlFlow _ V} → ByteReadsGrowing K (given_bytes n) s (result_map view answer) t
      → answer ≡ result_from_control_flow flow → flow ≡ Continue v → ByteGrowsOwn K becomes (f (view v)) t r z
      → ByteGrowsOwn K becomes (byte_and_then (vec_bytes n) f) s r z
  then_growing_bytes view h p q k =
      go_grown_bytes f (vec_bytes-grown n (subst (λ x. ByteReadsGrowing K (given_bytes n) s (result_map view x) t)
      (p ∙ ap result_from_control_flow q) h)) k

  pub end_growing_bytes : {V : Type 0} (view : V → List ℕ) {answer : Result V Error} {flow : ControlFlow _ V} {x : _}
      → ByteReadsGrowing K (given_bytes n) s (result_map view answer) t → answer ≡ result_from_control_flow flow
      → flow ≡ Break x → IsErrAnd r (becomes x.0) → ByteGrowsOwn K becomes (byte_and_then (vec_bytes n) f) s r t
  end_growing_bytes view h p q k =
      stop_grown_bytes f (vec_bytes-grown n (subst (λ x. ByteReadsGrowing K (given_bytes n) s (result_map view x) t)
      (p ∙ ap result_from_control_flow q) h)) k

-- a read of a number
module _ {R B E : Type 0} {K : ByteSource R} {becomes : Error → E → Type 0} (o : Order) (n : ℕ) (f : ℕ
    → ByteDecoder (Result B E)) {r : Result B E} {s t : R} {answer : Result ℕ Error} {flow : ControlFlow _ ℕ} where
  pub then_grown_number : {z : R} {v : ℕ} → ByteReads K (given_bytes n) s (result_map (bytes_in o n) answer) t
      → answer ≡ result_from_control_flow flow → flow ≡ Continue v → v < 2 ^ (8 * n)
      → ByteGrowsOwn K becomes (f v) t r z → ByteGrowsOwn K becomes (byte_and_then (number_bytes o n) f) s r z
  then_grown_number h p q fits k =
      let read = subst (λ y. ByteReads K (given_bytes n) s (result_map (bytes_in o n) y) t)
      (p ∙ ap result_from_control_flow q) h in
      go_grown_bytes f (bytes_grown (number_read o n read fits)) k

  pub end_grown_number : {x : _} → ByteReads K (given_bytes n) s (result_map (bytes_in o n) answer) t
      → answer ≡ result_from_control_flow flow → flow ≡ Break x → IsErrAnd r (becomes x.0)
      → ByteGrowsOwn K becomes (byte_and_then (number_bytes o n) f) s r t
  end_grown_number h p q k =
      let read = subst (λ y. ByteReads K (given_bytes n) s (result_map (bytes_in o n) y) t)
      (p ∙ ap result_from_control_flow q) h in
      stop_grown_bytes f (bytes_grown (number_stops o n read)) k

-- the result after all reads: a value, or an error of the type's own
pub grown_bytes_end : {R A E : Type 0} {K : ByteSource R} {becomes : Error → E → Type 0} (r : Result A E) (s : R)
    → ByteGrowsOwn K becomes (byte_pure r) s r s
grown_bytes_end r s = record { plain = Ok r; called = by_reads (nothing_read r s); answer = refl }

pub grown_bytes_is : {R A E : Type 0} {K : ByteSource R} {becomes : Error → E → Type 0} {x r : Result A E} {s : R}
    → x ≡ r → ByteGrowsOwn K becomes (byte_pure x) s r s
grown_bytes_is {x = x} {s = s} is = rw (sym is) (grown_bytes_end x s)

-- ---- parts that grow and have the same errors of their own

part_stops : {R A B E : Type 0} {K : ByteSource R} {becomes : Error → E → Type 0} {e : ByteDecoder (Result A E)} (f : A
    → ByteDecoder (Result B E)) {r : Result B E} {s t : R} (error : E) (plain : Result (Result A E) Error)
    → r ≡ Err error → ByteGrowingOutcome K e s plain t → OwnAnswer becomes (λ x. x) plain (Err error)
    → ByteGrowsOwn K becomes (byte_and_then e (byte_part_then f)) s r t
part_stops {K = K} {e = e} f {s = s} {t = t} error (Ok x) is h own =
    record {
      plain = Ok (Err error);
      called = bytes-grow-ok e (byte_part_then f)
          (subst (λ y. ByteGrowingOutcome K e s (Ok y) t) (sym own) h) (by_reads (nothing_read (Err error) t));
      answer = is;
    }
part_stops {becomes = becomes} {e = e} f error (Err x) is h own =
    record {
      plain = Err x;
      called = bytes-grow-err e (byte_part_then f) h;
      answer = subst (λ y. IsErrAnd y (becomes x)) (sym is) own;
    }

part_goes : {R A B E : Type 0} {K : ByteSource R} {becomes : Error → E → Type 0} {e : ByteDecoder (Result A E)} (f : A
    → ByteDecoder (Result B E)) {r : Result B E} {s t z : R} (a : A) (plain : Result (Result A E) Error)
    → ByteGrowingOutcome K e s plain t → OwnAnswer becomes (λ x. x) plain (Ok a) → ByteGrowsOwn K becomes (f a) t r z
    → ByteGrowsOwn K becomes (byte_and_then e (byte_part_then f)) s r z
part_goes {K = K} {e = e} f {s = s} {t = t} a (Ok x) h own k =
    record {
      plain = k.plain;
      called = bytes-grow-ok e (byte_part_then f) (subst (λ y. ByteGrowingOutcome K e s (Ok y) t) (sym own) h) k.called;
      answer = k.answer;
    }
part_goes f a (Err x) h own k = absurd own

module _ {R A B E : Type 0} {K : ByteSource R} {becomes : Error → E → Type 0} {e : ByteDecoder (Result A E)} (f : A
    → ByteDecoder (Result B E)) {r : Result B E} {s t : R} where
  pub byte_part_go : {z : R} {a : A} → ByteGrowsOwn K becomes e s (Ok a) t → ByteGrowsOwn K becomes (f a) t r z
      → ByteGrowsOwn K becomes (byte_and_then e (byte_part_then f)) s r z
  byte_part_go {a = a} h k = part_goes f a h.plain h.called h.answer k

  pub byte_part_stop : {x : E} → ByteGrowsOwn K becomes e s (Err x) t → r ≡ Err x
      → ByteGrowsOwn K becomes (byte_and_then e (byte_part_then f)) s r t
  byte_part_stop {x = x} h is = part_stops f x h.plain is h.called h.answer

  -- one whose result a `?` checked, and what follows it, or the end
  pub then_growing_byte_part : {z : R} {a : A} {answer : Result A E} {flow : ControlFlow _ A}
      → ByteGrowsOwn K becomes e s answer t → answer ≡ result_from_control_flow flow → flow ≡ Continue a
      → ByteGrowsOwn K becomes (f a) t r z → ByteGrowsOwn K becomes (byte_and_then e (byte_part_then f)) s r z
  then_growing_byte_part h p q k =
      byte_part_go (subst (λ x. ByteGrowsOwn K becomes e s x t) (p ∙ ap result_from_control_flow q) h) k

  pub end_growing_byte_part : {answer : Result A E} {flow : ControlFlow _ A} {x : _}
      → ByteGrowsOwn K becomes e s answer t → answer ≡ result_from_control_flow flow → flow ≡ Break x
      → IsErrAnd r (λ y. y ≡ x.0) → ByteGrowsOwn K becomes (byte_and_then e (byte_part_then f)) s r t
  end_growing_byte_part {x = x} h p q k =
      byte_part_stop (subst (λ y. ByteGrowsOwn K becomes e s y t) (p ∙ ap result_from_control_flow q) h)
      (is_error r x.0 k)

pub ruleset few_growing_byte_reads = (
  then_grown_number,
  end_grown_number,
  then_grown_bytes,
  end_grown_bytes,
  then_growing_bytes,
  end_growing_bytes,
  then_growing_byte_part,
  end_growing_byte_part,
  grown_bytes_end,
)

-- ---- parts that are read in a loop, and pushed

pub byte_parts-suc : {A E : Type 0} (e : ByteDecoder (Result A E)) (n : ℕ) → byte_parts e (suc n)
    ≡ byte_and_then (byte_parts e n) (byte_part_then (λ xs.
    byte_and_then e (byte_part_then (λ x. byte_stores (Ok (xs ++ x ∷ []))))))
unfolding byte_parts
byte_parts-suc e n = refl

-- a value that was stored, after all reads
stored_bytes_end : {R A E : Type 0} {K : ByteSource R} {becomes : Error → E → Type 0} (r : Result A E) (s : R)
    → ByteGrowsOwn K becomes (byte_stores r) s r s
stored_bytes_end {K = K} r s = record {
  plain = Ok r;
  called = by_reads (was_done (record {
    bytes = [];
    decides = λ more. refl;
    needs = λ prefix b back is. absurd (none_needed prefix b back is);
    took = (bytes_took 0 [] s s (bytes_none {K = K} {grows = false} s)).0;
  }));
  answer = refl;
}

module _ {R A E : Type 0} {K : ByteSource R} {becomes : Error → E → Type 0} (e : ByteDecoder (Result A E)) where
  -- none yet
  pub byte_parts-begin : {xs : List A} {s : R} → xs ≡ [] → BytePartsRead K becomes e 0 s xs s
  unfolding byte_parts
  byte_parts-begin {s = s} none = rw none (grown_bytes_end (Ok []) s)

  -- one more, pushed after the others
  pub byte_parts-push : (n : ℕ) {xs ys : List A} {x : A} {s t z : R} → ys ≡ xs ++ x ∷ []
      → BytePartsRead K becomes e n s xs t → ByteGrowsOwn K becomes e t (Ok x) z
      → BytePartsRead K becomes e (n + 1) s ys z
  byte_parts-push n {s = s} {z = z} is h k =
      rw (add-one n, byte_parts-suc e n, is) (byte_part_go _ h (byte_part_go _ k (stored_bytes_end _ z)))

  later : (k all : ℕ) (y : E) (s t : R) → ByteGrowsOwn K becomes (byte_parts e k) s (Err y) t
      → (k ≡ all) ⊎ (k < all) → ByteGrowsOwn K becomes (byte_parts e all) s (Err y) t
  later k all y s t h (inl is) = subst (λ n. ByteGrowsOwn K becomes (byte_parts e n) s (Err y) t) is h
  later k zero y s t h (inr less) = absurd (omega (arith, less))
  later k (suc n) y s t h (inr less) =
      rw (byte_parts-suc e n)
      (byte_part_stop _ (later k n y s t h (nat_le_split k n (omega (arith, less)))) refl)

  -- one whose error a `?` returned
  pub byte_parts-stop : (n all : ℕ) {xs : List A} {x : E} {s t z : R} → n < all → BytePartsRead K becomes e n s xs t
      → ByteGrowsOwn K becomes e t (Err x) z → ByteGrowsOwn K becomes (byte_parts e all) s (Err x) z
  byte_parts-stop n all {x = x} {s = s} {z = z} more h k =
      let here : ByteGrowsOwn K becomes (byte_parts e (suc n)) s (Err x) z =
      rw (byte_parts-suc e n) (byte_part_go _ h (byte_part_stop _ k refl)) in
      later (suc n) all x s z here (nat_le_split (suc n) all (omega (arith, more)))

  -- k parts were read and stored, and one more was read, for which no memory was found
  pub byte_parts-refused : (k all : ℕ) {xs : List A} {x : A} {y : E} {s t z : R} → k < all
      → BytePartsRead K becomes e k s xs t → ByteGrowsOwn K becomes e t (Ok x) z → becomes OutOfMemory y
      → ByteGrowsOwn K becomes (byte_parts e all) s (Err y) z
  byte_parts-refused k all {xs = xs} {x = x} {y = y} {s = s} {z = z} less h read own =
      let last : ByteGrowsOwn K becomes (byte_stores (Ok (xs ++ x ∷ []))) z (Err y) z = record {
        plain = Err OutOfMemory;
        called = bytes-growth-here (byte_stores (Ok (xs ++ x ∷ []))) z refl;
        answer = own;
      } in
      let next : ByteGrowsOwn K becomes (byte_parts e (suc k)) s (Err y) z =
      rw (byte_parts-suc e k) (byte_part_go _ h (byte_part_go _ read last)) in
      later (suc k) all y s z next (nat_le_split (suc k) all (omega (arith, less)))
