-- Calls for whole bytes, one after another, and their number.
use Rattle.std.proofs.Common.{Continue, Break, ◌≡◌, ℕ, ◌+◌, ◌<◌, ◌≤◌, List, [], ◌∷◌, length, Some, Result, Ok, Err, refl, sym, ap, ◌∙◌, subst, inl, inr, arith}
use Rattle.std.specs.Result.{IsErrAnd, result_from_control_flow}
use Rattle.std.specs.declared.ops.ControlFlow.{ControlFlow}
use Rattle.bitstream_number.specs.Word.{Order, High}
use Rattle.bitstream_count.specs.declared.error.Error.{Error}
use Rattle.bitstream_count.specs.declared.error.Error.TheVariants.{CounterOverflow}
use Rattle.bitstream_count.specs.Codec.{result_then}
use Rattle.bitstream_order.specs.Refusal.{Refusal}
use Rattle.bitstream_stream.specs.Writing.Sink.{IsPastLimit, IsWithin}
use Rattle.bitstream_stream.specs.WholeBytes.ByteSink.{ByteSink, ByteWrites, past_limit, was_refused, was_done}
use Rattle.bitstream_value.specs.ByteTypes.{byte_counter_sink, ByteWritesAll, ByteWritesOwn, total_length, held_by, CountsBytes}
use Rattle.bitstream_value.specs.Lengths.{in_place, number_of, IsNumberWithin}
use Rattle.bitstream_value.specs.Own.{OwnAnswer, same_error}
use Rattle.bitstream_value.proofs.OwnLemmas.{is_error}
use Rattle.bitstream_value.proofs.LengthLemmas.{if-true, if-false, past, within, told}

-- writes that have no error but the sink's
pub plainly_written : {S : Type 0} (K : ByteSink S) (buffers : List (List ℕ)) (r : Result (Unit {0}) Error) (s t : S)
    → ByteWritesAll K buffers s r t → ByteWritesOwn K same_error buffers (Ok tt) s r t
plainly_written K buffers (Ok v) s t h = record { plain = Ok v; called = h; answer = refl }
plainly_written K buffers (Err x) s t h = record { plain = Err x; called = h; answer = refl }

-- ---- writes one after another, as the proof of a caller goes through them: `search few_byte_writes`

module _ {S : Type 0} (K : ByteSink S) (buffer : List ℕ) (buffers : List (List ℕ)) (r : Result (Unit {0}) Error)
    (s t : S) (answer : Result (Unit {0}) Error) where
  -- a call whose result a `?` checked, and what follows it
  pub then_buffer : (z : S) (flow : ControlFlow _ (Unit {0})) → ByteWrites K buffer s answer t → answer
      ≡ result_from_control_flow flow → flow ≡ Continue tt → ByteWritesAll K buffers t r z
      → ByteWritesAll K (buffer ∷ buffers) s r z
  unfolding ByteWritesAll
  then_buffer z flow h p q k = inr (t, subst (λ x. ByteWrites K buffer s x t) (p ∙ ap result_from_control_flow q) h, k)

  -- one whose error it returned
  pub end_buffer : (flow : ControlFlow _ (Unit {0})) (x : _) → ByteWrites K buffer s answer t → answer
      ≡ result_from_control_flow flow → flow ≡ Break x → IsErrAnd r (λ y. y ≡ x.0)
      → ByteWritesAll K (buffer ∷ buffers) s r t
  unfolding ByteWritesAll
  end_buffer flow x h p q k =
      let is = is_error r x.0 k in
      inl (rw is refl, subst (λ y. ByteWrites K buffer s y t) (p ∙ ap result_from_control_flow q ∙ sym is) h)

-- the last call
pub last_buffer : {S : Type 0} (K : ByteSink S) (buffer : List ℕ) (r : Result (Unit {0}) Error) (s t : S)
    → ByteWrites K buffer s r t → ByteWritesAll K (buffer ∷ []) s r t
unfolding ByteWritesAll
last_buffer K buffer (Ok v) s t h = inr (t, h, (refl, refl))
last_buffer K buffer (Err x) s t h = inl (refl, h)

pub ruleset few_byte_writes = (then_buffer, end_buffer, last_buffer)

-- ---- a call on a counter is a sum

module _ {S : Type 0} (count : S → ℕ) (greatest : ℕ) (fits : (s : S) → count s ≤ greatest) where
  pub counted : {T : Type 0} (buffer : List ℕ) (n : ℕ) (old : S) (result : Result T Error) (new : S) (done : T)
      → length buffer ≡ n → result ≡ Ok done → count new ≡ count old + n
      → ByteWrites (byte_counter_sink count greatest fits) buffer old result new
  counted buffer n old result new done len answer sum =
      was_done done (omega (arith, len, sum, fits new)) answer (record {
        grown = omega (arith, len, sum);
        refusals =
            refl;
        references = refl;
      })

  pub overflowed : {T : Type 0} (buffer : List ℕ) (n : ℕ) (old : S) (result : Result T Error) (new : S) → length buffer
      ≡ n → result ≡ Err CounterOverflow → greatest < count old + n → count new ≡ count old
      → ByteWrites (byte_counter_sink count greatest fits) buffer old result new
  overflowed buffer n old result new len answer over same =
      past_limit (omega (arith, len, over)) answer (record {
        grown = omega (arith, same);
        refusals = refl;
        references = refl;
      })

-- ---- calls on a sink

module _ {S : Type 0} (K : ByteSink S) where
  buffer_grown : (buffer : List ℕ) (s t : S) → ByteWrites {T = Unit {0}} K buffer s (Ok tt) t → K.len t
      ≡ K.len s + length buffer
  buffer_grown buffer s t (past_limit over is k) = cc
  buffer_grown buffer s t (was_refused x le is k) = cc
  buffer_grown buffer s t (was_done v le is k) = K.appends_len s t buffer k.grown

  -- buffers that were done
  pub grown_by : (buffers : List (List ℕ)) (s t : S) → ByteWritesAll K buffers s (Ok tt) t → K.len t
      ≡ K.len s + total_length buffers
  unfolding ByteWritesAll
  grown_by [] s t p = ap K.len p.1 ∙ omega arith
  grown_by (buffer ∷ buffers) s t (inl p) = let z = p.0 in cc
  grown_by (buffer ∷ buffers) s t (inr p) =
      let first = buffer_grown buffer s p.0 p.1 in
      let others = grown_by buffers p.0 t p.2 in
      omega (arith, first, others)

  accepted_answer : {E : Type 0} (becomes : Error → E → Type 0) (answer : Result (Unit {0}) E)
      (buffers : List (List ℕ)) (s t : S) (plain : Result (Unit {0}) Error) → ByteWritesAll K buffers s plain t
      → OwnAnswer becomes (λ _. answer) plain (Ok tt)
      → ByteWritesAll K buffers s (Ok tt) t × (Ok tt ≡ answer)
  accepted_answer becomes answer buffers s t (Ok v) all own = (all, own)
  accepted_answer becomes answer buffers s t (Err x) all own = absurd own

-- ---- calls on a sink that counts

module _ {S : Type 0} (K : ByteSink S) (most : ℕ) (limit : K.limit ≡ Some most) (never : (x : Refusal) → K.may x
    → ⊥) where
  buffer_error : (buffer : List ℕ) (s : S) (x : Error) (t : S) → ByteWrites {T = Unit {0}} K buffer s (Err x) t
      → (x ≡ CounterOverflow) × (most < K.len s + length buffer)
  buffer_error buffer s x t (past_limit over is k) = (cc, subst (λ l. IsPastLimit l (K.len s + length buffer)) limit over)
  buffer_error buffer s x t (was_refused y le is k) = absurd (never k.refusal k.allowed)
  buffer_error buffer s x t (was_done v le is k) = cc

  -- an error is that of the limit
  all_error : (buffers : List (List ℕ)) (s : S) (x : Error) (t : S) → ByteWritesAll K buffers s (Err x) t
      → (x ≡ CounterOverflow) × (most < K.len s + total_length buffers)
  unfolding ByteWritesAll
  all_error [] s x t p = let z = p.0 in cc
  all_error (buffer ∷ buffers) s x t (inl p) = let first = buffer_error buffer s x t p.1 in
      (first.0, omega (arith, first.1))
  all_error (buffer ∷ buffers) s x t (inr p) =
      let first = buffer_grown K buffer s p.0 p.1 in
      let others = all_error buffers p.0 x t p.2 in
      (others.0, omega (arith, first, others.1))

  -- what they return on a new counter
  held_as : (buffers : List (List ℕ)) (s : S) (plain : Result (Unit {0}) Error) (t : S) → K.len s ≡ 0
      → ByteWritesAll K buffers s plain t → held_by most (total_length buffers) ≡ result_then plain (λ _. Ok (K.len t))
  held_as buffers s (Ok v) t start h =
      let grown = grown_by K buffers s t h in
      let le : K.len t ≤ most = subst (λ l. IsWithin l (K.len t)) limit (K.within t) in
      if-false _ _ _ (within most (total_length buffers) (omega (arith, grown, start, le)))
      ∙ ap Ok (omega (arith, grown, start))
  held_as buffers s (Err x) t start h =
      let error = all_error buffers s x t h in
      if-true _ _ _ (past most (total_length buffers) (omega (arith, error.1, start))) ∙ ap Err (sym error.0)

-- ---- what is returned for a count of the bytes of calls

counted_by : {C E : Type 0} (value : C → ℕ) (most : ℕ) (becomes : Error → E → Type 0) (buffers : List (List ℕ))
    (answer : Result (Unit {0}) E) (x : Result ℕ Error) (r : Result C E)
    → held_by most (total_length buffers) ≡ x → OwnAnswer becomes (in_place answer) x (number_of value r)
    → CountsBytes value most becomes buffers answer r
counted_by value most becomes buffers answer x r is h =
    subst (λ y. OwnAnswer becomes (in_place answer) y (number_of value r)) (sym is) h

module _ {S C E : Type 0} (K : ByteSink S) (most : ℕ) (value : C → ℕ) (becomes : Error → E → Type 0)
    (buffers : List (List ℕ)) (answer : Result (Unit {0}) E) (s t : S) where
  stopped_by : (error : E) (plain : Result (Unit {0}) Error) → held_by most (total_length buffers)
      ≡ result_then plain (λ _. Ok (K.len t)) → OwnAnswer becomes (λ _. answer) plain (Err error)
      → CountsBytes value most becomes buffers answer (Err error)
  stopped_by error (Ok v) is own = counted_by value most becomes buffers answer (Ok (K.len t)) (Err error) is
      (ap (λ (a : Result (Unit {0}) E). in_place a (K.len t)) own)
  stopped_by error (Err x) is own = counted_by value most becomes buffers answer (Err x) (Err error) is own

  done_by : (c : C) (plain : Result (Unit {0}) Error) → value c ≡ K.len t → held_by most (total_length buffers)
      ≡ result_then plain (λ _. Ok (K.len t)) → OwnAnswer becomes (λ _. answer) plain (Ok tt)
      → CountsBytes value most becomes buffers answer (Ok c)
  done_by c (Ok v) all is own = counted_by value most becomes buffers answer (Ok (K.len t)) (Ok c) is (ap Ok all
      ∙ ap (λ (a : Result (Unit {0}) E). in_place a (K.len t)) own)
  done_by c (Err x) all is own = absurd own

  module _ (limit : K.limit ≡ Some most) (never : (x : Refusal) → K.may x → ⊥) (start : K.len s ≡ 0) where
    -- after calls on a new counter that returned an error
    pub count_stopped : (error : E) (r : Result C E) → IsErrAnd r (λ y. y ≡ error)
        → ByteWritesOwn K becomes buffers answer s (Err error) t → CountsBytes value most becomes buffers answer r
    count_stopped error (Ok c) left h = absurd left
    count_stopped error (Err y) left h =
        subst (λ z. CountsBytes value most becomes buffers answer (Err z)) (sym left)
        (stopped_by error h.plain (held_as K most limit never buffers s h.plain t start h.called) h.answer)

    -- and after calls that were done
    pub count_done : (c : C) → value c ≡ K.len t → ByteWritesOwn K becomes buffers answer s (Ok tt) t
        → CountsBytes value most becomes buffers answer (Ok c)
    count_done c is h = done_by c h.plain is (held_as K most limit never buffers s h.plain t start h.called) h.answer

-- a value was written, and its bytes counted
pub counted_as_appended : {S C E : Type 0} (K : ByteSink S) (value : C → ℕ) (most : ℕ) (becomes : Error → E
    → Type 0) (writes : Order → List (List ℕ)) (answer : Result (Unit {0}) E) (old new : S) (bytes : Result C E) (n : ℕ)
    → ((o p : Order) → total_length (writes o) ≡ total_length (writes p))
    → ByteWritesOwn K becomes (writes K.order) answer old (Ok tt) new
    → CountsBytes value most becomes (writes High) answer bytes → K.len new ≡ K.len old + n
    → IsNumberWithin value most becomes n bytes
counted_as_appended K value most becomes writes answer old new bytes n one written counted far =
    let all = accepted_answer K becomes answer (writes K.order) old new written.plain written.called written.answer in
    let grown = grown_by K (writes K.order) old new all.0 in
    let same = one High K.order in
    let is : held_by most (total_length (writes High)) ≡ held_by most n =
    ap (held_by most) (omega (arith, same, grown, far)) in
    let own = subst (λ x. OwnAnswer becomes (in_place answer) x (number_of value bytes)) is counted in
    told value most n becomes bytes (subst (λ a. OwnAnswer becomes (in_place a) (held_by most n)
    (number_of value bytes)) (sym all.1) own)
