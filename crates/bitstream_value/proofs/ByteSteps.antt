-- Reads of whole bytes one after another, in a function with errors of its own, as the proof of a user's type goes
-- through them: `search few_byte_reads`, where a function makes up to four calls.
use Rattle.std.proofs.Common.{Continue, Break, ◌≡◌, ℕ, ◌+◌, ◌*◌, ◌^◌, ◌<◌, ◌⊎◌, inl, inr, Bool, true, false, List, [], ◌∷◌, ◌++◌, length, Result, Ok, Err, refl, sym, ap, ◌∙◌, subst, append_assoc, length-append, arith}
use Rattle.std.proofs.KnownBytes.{Consumes-trans}
use Rattle.std.proofs.Math.Nat.{mod-eq_of_lt}
use Rattle.std.proofs.Math.Seq.{drop-append_seam}
use Rattle.std.specs.Prelude.{if◌then◌else◌}
use Rattle.std.specs.Result.{IsErrAnd, result_from_control_flow}
use Rattle.std.specs.declared.ops.ControlFlow.{ControlFlow}
use Rattle.bitstream_count.specs.declared.error.Error.{Error}
use Rattle.bitstream_count.specs.Codec.{Prefix, Incomplete, Done, advance}
use Rattle.bitstream_number.specs.Word.{Order, High, Low, bits, bytes, number}
use Rattle.bitstream_number.proofs.WordLemmas.{bits-bytes, number-word}
use Rattle.bitstream_order.specs.Moving.Gather.{result_map}
use Rattle.bitstream_order.specs.Parts.{value_bytes}
use Rattle.bitstream_stream.specs.WholeBytes.ByteReads.{ByteSource, ByteDecoder, BytesTaken, ByteReadOutcome, ByteReads, was_done, was_refused, memory_refused, given_bytes}
use Rattle.bitstream_stream.proofs.WholeBytes.ByteReadsLemmas.{bytes_none, bytes_more, bytes_taken, bytes_took}
use Rattle.bitstream_stream.proofs.Reading.ReadsLemmas.{Consumes-known}
use Rattle.bitstream_value.specs.ByteSteps.{number_bytes}
use Rattle.bitstream_value.specs.ByteTypes.{byte_and_then, byte_pure, ByteReadsOwn}

-- ---- prefixes of two reads

module _ {A B : Type 0} (e : ByteDecoder A) (f : A → ByteDecoder B) where
  pub and_then-ok : (u v : List ℕ) (a : A) (x : Prefix B) → e.reads (u ++ v) ≡ Done (length u) (Ok a)
      → (f a).reads v ≡ x → (byte_and_then e f).reads (u ++ v) ≡ advance (length u) x
  unfolding byte_and_then
  and_then-ok u v a x first second = rw first (ap (advance (length u)) (ap (f a).reads (drop-append_seam u v) ∙ second))

  and_then-err : (w : List ℕ) (n : ℕ) (x : Error) → e.reads w ≡ Done n (Err x)
      → (byte_and_then e f).reads w ≡ Done n (Err x)
  unfolding byte_and_then
  and_then-err w n x h = rw h refl

  pub and_then-none : (w : List ℕ) → e.reads w ≡ Incomplete → (byte_and_then e f).reads w ≡ Incomplete
  unfolding byte_and_then
  and_then-none w h = rw h refl

-- a beginning of two lists is one of the first, or the first and a beginning of the second
cut : (u v prefix : List ℕ) (b : ℕ) (back : List ℕ) → u ++ v ≡ prefix ++ b ∷ back
    → ((more : List ℕ) × (u ≡ prefix ++ b ∷ more)) ⊎ ((more : List ℕ) × (prefix ≡ u ++ more) × (v ≡ more ++ b ∷ back))
cut [] v prefix b back e = inr (prefix, refl, e)
cut (c ∷ u) v [] b back e = let head : c ≡ b = cc in inl (u, ap (λ d. d ∷ u) head)
cut (c ∷ u) v (d ∷ prefix) b back e =
    let head : c ≡ d = cc in
    let tail : u ++ v ≡ prefix ++ b ∷ back = cc in
    elim (cut u v prefix b back tail) [
      | inl p ↦ inl (p.0, ap (λ x. x ∷ u) head ∙ ap (λ l. d ∷ l) p.1)
      | inr p ↦ inr (p.0, ap (λ x. x ∷ prefix) (sym head) ∙ ap (λ l. c ∷ l) p.1, p.2)
    ]

pub none_needed : (prefix : List ℕ) (b : ℕ) (back : List ℕ) → [] ≡ prefix ++ b ∷ back → ⊥
none_needed [] b back e = cc
none_needed (c ∷ prefix) b back e = cc

-- a beginning of the bytes of two reads, one after the other, is too short for both
module _ {A B : Type 0} (e : ByteDecoder A) (f : A → ByteDecoder B) where
  pub and_then-needs : (u v : List ℕ) (a : A) → ((more : List ℕ) → e.reads (u ++ more) ≡ Done (length u) (Ok a))
      → ((prefix : List ℕ) (b : ℕ) (back : List ℕ) → u ≡ prefix ++ b ∷ back → e.reads prefix ≡ Incomplete)
      → ((prefix : List ℕ) (b : ℕ) (back : List ℕ) → v ≡ prefix ++ b ∷ back → (f a).reads prefix ≡ Incomplete)
      → (prefix : List ℕ) (b : ℕ) (back : List ℕ) → u ++ v ≡ prefix ++ b ∷ back → (byte_and_then e f).reads prefix ≡ Incomplete
  and_then-needs u v a decides first second prefix b back is = elim (cut u v prefix b back is) [
    | inl p ↦ and_then-none e f prefix (first prefix b p.0 p.1)
    | inr p ↦ subst (λ w. (byte_and_then e f).reads w ≡ Incomplete) (sym p.1)
        (and_then-ok e f u p.0 a Incomplete (decides p.0) (second p.0 b back p.2))
  ]

-- ---- reads one after another

pub both_taken : {R : Type 0} (K : ByteSource R) (x y : List ℕ) (s t u : R) → BytesTaken (K.state s) x (K.state t)
    → BytesTaken (K.state t) y (K.state u) → BytesTaken (K.state s) (x ++ y) (K.state u)
both_taken K x y s t u h k =
    let first = bytes_taken {K = K} {grows = false} (length x) x s t refl h in
    let second = bytes_taken {K = K} {grows = false} (length y) y t u refl k in
    (bytes_took (length x + length y) (x ++ y) s u (bytes_more (length x) (length y) x y s t u first second)).0

module _ {R A B : Type 0} {K : ByteSource R} {grows : Bool} (e : ByteDecoder A) (f : A → ByteDecoder B) where
  pub and_then_reads : {a : A} {r : Result B Error} {s t z : R} → ByteReadOutcome K grows e s (Ok a) t
      → ByteReadOutcome K grows (f a) t r z → ByteReadOutcome K grows (byte_and_then e f) s r z
  and_then_reads {a = a} {r = r} {s = s} {t = t} {z = z} (was_done h) (was_done k) =
      let u = h.bytes in
      let v = k.bytes in
      was_done (record {
        bytes = u ++ v;
        decides = λ more. rw (append_assoc u v more, length-append u v)
            (and_then-ok e f u (v ++ more) a (Done (length v) r) (h.decides (v ++ more)) (k.decides more));
        needs = and_then-needs e f u v a h.decides h.needs k.needs;
        took = both_taken K u v s t z h.took k.took;
      })
  and_then_reads {a = a} {s = s} {t = t} (was_done h) (was_refused k) =
      let u = h.bytes in
      let took = h.took in
      was_refused (record {
        refusal = k.refusal;
        allowed = k.allowed;
        answer = k.answer;
        gone = u ++ k.gone;
        loses = Consumes-trans (K.state s).bytes (K.state t).bytes k.refusal.before u k.gone took.loses k.loses;
        after = k.after;
        taken = omega (arith, took.taken, k.taken, length-append u k.gone);
        few = and_then-ok e f u k.gone a Incomplete (h.decides k.gone) k.few;
        ended = λ end xs known.
            let left = Consumes-known (K.state s).bytes (K.state t).bytes u xs took.loses known in
            subst (λ w. (byte_and_then e f).reads w ≡ Incomplete) (sym left.2)
            (and_then-ok e f u left.0 a Incomplete (h.decides left.0) (k.ended end left.0 left.1));
        refusals = k.refusals ∙ ap (λ l. k.refusal ∷ l) took.refusals;
        references = k.references ∙ took.references;
      })
  and_then_reads {a = a} {s = s} {t = t} {z = z} (was_done h) (memory_refused g k) =
      memory_refused g (record {
        answer = k.answer;
        bytes = h.bytes ++ k.bytes;
        few = and_then-ok e f h.bytes k.bytes a Incomplete (h.decides k.bytes) k.few;
        took = both_taken K h.bytes k.bytes s t z h.took k.took;
      })
  and_then_reads (was_refused h) k = let p = h.answer in cc
  and_then_reads (memory_refused g h) k = let p = h.answer in cc

  pub and_then_stops : {x : Error} {s t : R} → ByteReadOutcome K grows e s (Err x) t
      → ByteReadOutcome K grows (byte_and_then e f) s (Err x) t
  and_then_stops {x = x} (was_done h) = was_done (record {
    bytes = h.bytes;
    decides = λ more. and_then-err e f (h.bytes ++ more) (length h.bytes) x (h.decides more);
    needs = λ prefix b back is. and_then-none e f prefix (h.needs prefix b back is);
    took = h.took;
  })
  and_then_stops {x = x} (was_refused h) = was_refused (record {
    refusal = h.refusal;
    allowed = h.allowed;
    answer = let p = h.answer in cc;
    gone = h.gone;
    loses = h.loses;
    after = h.after;
    taken = h.taken;
    few = and_then-none e f h.gone h.few;
    ended = λ end xs known. and_then-none e f xs (h.ended end xs known);
    refusals = h.refusals;
    references = h.references;
  })
  and_then_stops {x = x} (memory_refused g h) = memory_refused g (record {
    answer = let p = h.answer in cc;
    bytes = h.bytes;
    few = and_then-none e f h.bytes h.few;
    took = h.took;
  })

-- no read at all
pub nothing_read : {R A : Type 0} {K : ByteSource R} {grows : Bool} (a : A) (s : R)
    → ByteReadOutcome K grows (byte_pure a) s (Ok a) s
nothing_read {K = K} a s = was_done (record {
  bytes = [];
  decides = λ more. refl;
  needs = λ prefix b back is. absurd (none_needed prefix b back is);
  took = (bytes_took 0 [] s s (bytes_none {K = K} {grows = false} s)).0;
})

-- ---- numbers

-- the n bytes of a number in an order, as `read` returns it
abbrev pub bytes_in : Order → ℕ → ℕ → List ℕ
bytes_in o n = value_bytes o (λ (x : ℕ). bytes High n x) (λ (x : ℕ). bytes Low n x)

-- they have it as their number
pub number-bytes : (o : Order) (n v : ℕ) → v < 2 ^ (8 * n) → number o (bits o (bytes_in o n v)) ≡ v
number-bytes High n v fits = ap (number High) (bits-bytes High n v) ∙ number-word High (8 * n) v ∙ mod-eq_of_lt fits
number-bytes Low n v fits = ap (number Low) (bits-bytes Low n v) ∙ number-word Low (8 * n) v ∙ mod-eq_of_lt fits

module _ {R : Type 0} {K : ByteSource R} (o : Order) (n : ℕ) {s t : R} where
  pub number_read : {v : ℕ} → ByteReads K (given_bytes n) s (Ok (bytes_in o n v)) t → v < 2 ^ (8 * n)
      → ByteReads K (number_bytes o n) s (Ok v) t
  unfolding number_bytes
  number_read {v = v} h fits =
      subst (λ x. ByteReads K (number_bytes o n) s (Ok x) t) (number-bytes o n v fits)
      (and_then_reads (given_bytes n) _ h (nothing_read _ t))

  pub number_stops : {x : Error} → ByteReads K (given_bytes n) s (Err x) t → ByteReads K (number_bytes o n) s (Err x) t
  unfolding number_bytes
  number_stops h = and_then_stops (given_bytes n) _ h

-- ---- reads of a function with errors of its own

module _ {R A B E : Type 0} {K : ByteSource R} {becomes : Error → E → Type 0} {e : ByteDecoder A} (f : A
    → ByteDecoder (Result B E)) {r : Result B E} {s t : R} where
  own_goes : {z : R} {a : A} → ByteReads K e s (Ok a) t → ByteReadsOwn K becomes (f a) t r z
      → ByteReadsOwn K becomes (byte_and_then e f) s r z
  own_goes h k = record { plain = k.plain; called = and_then_reads e f h k.called; answer = k.answer }

  own_stops : {x : Error} → ByteReads K e s (Err x) t → IsErrAnd r (becomes x)
      → ByteReadsOwn K becomes (byte_and_then e f) s r t
  own_stops {x = x} h k = record { plain = Err x; called = and_then_stops e f h; answer = k }

  -- a read whose result a `?` checked, and what follows it, or the end
  module _ {answer : Result A Error} {flow : ControlFlow _ A} where
    pub then_bytes : {z : R} {a : A} → ByteReads K e s answer t → answer ≡ result_from_control_flow flow → flow
        ≡ Continue a → ByteReadsOwn K becomes (f a) t r z → ByteReadsOwn K becomes (byte_and_then e f) s r z
    then_bytes h p q k = own_goes (subst (λ y. ByteReads K e s y t) (p ∙ ap result_from_control_flow q) h) k

    pub end_bytes : {x : _} → ByteReads K e s answer t → answer ≡ result_from_control_flow flow → flow ≡ Break x
        → IsErrAnd r (becomes x.0) → ByteReadsOwn K becomes (byte_and_then e f) s r t
    end_bytes h p q k = own_stops (subst (λ y. ByteReads K e s y t) (p ∙ ap result_from_control_flow q) h) k

-- a read of a number
module _ {R B E : Type 0} {K : ByteSource R} {becomes : Error → E → Type 0} (o : Order) (n : ℕ) (f : ℕ
    → ByteDecoder (Result B E)) {r : Result B E} {s t : R} {answer : Result ℕ Error} {flow : ControlFlow _ ℕ} where
  pub then_number : {z : R} {v : ℕ} → ByteReads K (given_bytes n) s (result_map (bytes_in o n) answer) t
      → answer ≡ result_from_control_flow flow → flow ≡ Continue v → v < 2 ^ (8 * n)
      → ByteReadsOwn K becomes (f v) t r z → ByteReadsOwn K becomes (byte_and_then (number_bytes o n) f) s r z
  then_number h p q fits k =
      let read = subst (λ y. ByteReads K (given_bytes n) s (result_map (bytes_in o n) y) t)
      (p ∙ ap result_from_control_flow q) h in
      own_goes f (number_read o n read fits) k

  pub end_number : {x : _} → ByteReads K (given_bytes n) s (result_map (bytes_in o n) answer) t
      → answer ≡ result_from_control_flow flow → flow ≡ Break x → IsErrAnd r (becomes x.0)
      → ByteReadsOwn K becomes (byte_and_then (number_bytes o n) f) s r t
  end_number h p q k =
      let read = subst (λ y. ByteReads K (given_bytes n) s (result_map (bytes_in o n) y) t)
      (p ∙ ap result_from_control_flow q) h in
      own_stops f (number_stops o n read) k

-- the result after all reads: a value, or an error of the type's own
pub bytes_end : {R A E : Type 0} {K : ByteSource R} {becomes : Error → E → Type 0} (r : Result A E) (s : R)
    → ByteReadsOwn K becomes (byte_pure r) s r s
bytes_end r s = record { plain = Ok r; called = nothing_read r s; answer = refl }

-- what is read if a condition holds, and if not
module _ {R A E : Type 0} {K : ByteSource R} {becomes : Error → E → Type 0} (x y : ByteDecoder (Result A E))
    {r : Result A E} {s t : R} where
  pub if_bytes : (b : Bool) → b ≡ true → ByteReadsOwn K becomes x s r t
      → ByteReadsOwn K becomes (if b then x else y) s r t
  if_bytes true is h = h
  if_bytes false is h = cc

  pub else_bytes : (b : Bool) → b ≡ false → ByteReadsOwn K becomes y s r t
      → ByteReadsOwn K becomes (if b then x else y) s r t
  else_bytes true is h = cc
  else_bytes false is h = h

pub ruleset few_byte_reads = (
  then_number,
  end_number,
  then_bytes,
  end_bytes,
  bytes_end,
  if_bytes,
  else_bytes,
)
