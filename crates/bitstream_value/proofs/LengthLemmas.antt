-- The number of bits that lists of write calls take.
use Rattle.std.proofs.Common.{◌≡◌, ℕ, ◌+◌, ◌%◌, ◌<◌, ◌≤◌, Bool, true, false, List, [], ◌∷◌, length, Some, Result, Ok, Err, refl, sym, ap, ◌∙◌, subst, inl, inr, arith}
use Rattle.std.specs.Prelude.{nat_lt, if◌then◌else◌}
use Rattle.std.proofs.lemmas.Bool.{cases_lt}
use Rattle.std.proofs.lemmas.Bool.Decides.{nat_tests}
use Rattle.std.specs.Result.{IsErrAnd}
use Rattle.bitstream_number.specs.Word.{Order, High}
use Rattle.bitstream_count.specs.declared.error.Error.{Error}
use Rattle.bitstream_count.specs.declared.error.Error.TheVariants.{CounterOverflow}
use Rattle.bitstream_count.specs.Codec.{Encoder, result_then}
use Rattle.bitstream_order.specs.Refusal.{Refusal}
use Rattle.bitstream_stream.specs.Writing.Sink.{Sink, Writes, WritesAll, IsPastLimit, IsWithin, had_failed, was_rejected, past_limit, was_refused, was_done}
use Rattle.bitstream_value.specs.Lengths.{counted_bits, sequence_length, HasOneLength, in_place, number_of, CountsBits, IsNumberWithin}
use Rattle.bitstream_value.specs.Own.{OwnAnswer, WritesOwn}

pub if-true : {A : Type 0} (b : Bool) (x y : A) → b ≡ true → (if b then x else y) ≡ x
if-true true x y h = refl
if-true false x y h = cc

pub if-false : {A : Type 0} (b : Bool) (x y : A) → b ≡ false → (if b then x else y) ≡ y
if-false true x y h = cc
if-false false x y h = refl

pub past : (m n : ℕ) → m < n → nat_lt m n ≡ true
past m n h = grind (arith, nat_tests)

pub within : (m n : ℕ) → n ≤ m → nat_lt m n ≡ false
within m n h = grind (arith, nat_tests)

-- ---- a counter that holds `most` at most, at its next call

module _ (most : ℕ) (e : Encoder) (es : List Encoder) (n : ℕ) where
  abbrev next : List Bool → Result ℕ Error
  next w = if nat_lt most (n + length w) then Err CounterOverflow else counted_bits most es (n + length w)

  fits : (w : List Bool) → e n ≡ Ok w → n + length w ≤ most → counted_bits most (e ∷ es) n
      ≡ counted_bits most es (n + length w)
  fits w is le = ap (λ (x : Result (List Bool) Error). result_then x next) is
      ∙ if-false _ _ _ (within most (n + length w) le)

  overflows : (w : List Bool) → e n ≡ Ok w → most < n + length w → counted_bits most (e ∷ es) n ≡ Err CounterOverflow
  overflows w is lt = ap (λ (x : Result (List Bool) Error). result_then x next) is
      ∙ if-true _ _ _ (past most (n + length w) lt)

  rejected : (x : Error) → e n ≡ Err x → counted_bits most (e ∷ es) n ≡ Err x
  rejected x is = ap (λ (y : Result (List Bool) Error). result_then y next) is

-- ---- calls on a sink that counts and never fails

module _ {S : Type 0} (K : Sink S) (most : ℕ) (limit : K.limit ≡ Some most) (sound : (s : S) → K.failed s
    ≡ false) (never : (x : Refusal) → K.may x → ⊥) where
  -- one call that returned an error
  one_error : (e : Encoder) (es : List Encoder) (s : S) (x : Error) (t : S)
      → Writes {T = Unit {0}} K e s (Err x) t → counted_bits most (e ∷ es) (K.len s) ≡ Err x
  one_error e es s x t (had_failed f is k) = let fine = sound s in cc
  one_error e es s x t (was_rejected y f en is k) = let same : y ≡ x = cc in rejected most e es (K.len s) y en
      ∙ ap Err same
  one_error e es s x t (past_limit w f en over is k) = let same : CounterOverflow ≡ x = cc in
      overflows most e es (K.len s) w en (subst (λ l. IsPastLimit l (K.len s + length w)) limit over) ∙ ap Err same
  one_error e es s x t (was_refused w y f en le is k) = absurd (never k.refusal k.allowed)
  one_error e es s x t (was_done w v f en le is k) = cc

  -- one that returned `Ok`
  one_done : (e : Encoder) (es : List Encoder) (s t : S) → Writes {T = Unit {0}} K e s (Ok tt) t
      → counted_bits most (e ∷ es) (K.len s) ≡ counted_bits most es (K.len t)
  one_done e es s t (had_failed f is k) = cc
  one_done e es s t (was_rejected y f en is k) = cc
  one_done e es s t (past_limit w f en over is k) = cc
  one_done e es s t (was_refused w y f en le is k) = cc
  one_done e es s t (was_done w v f en le is k) =
      fits most e es (K.len s) w en (subst (λ l. IsWithin l (K.len s + length w)) limit le)
      ∙ ap (counted_bits most es) (sym (K.appends_len s t w k.grown))

  -- all of them
  pub all_counted : (es : List Encoder) (s : S) (r : Result (Unit {0}) Error) (t : S) → WritesAll K es s r t
      → counted_bits most es (K.len s) ≡ result_then r (λ _. Ok (K.len t))
  unfolding WritesAll
  all_counted [] s r t p = rw (p.0, p.1) refl
  all_counted (e ∷ es) s (Ok v) t (inl p) = let z = p.0 in cc
  all_counted (e ∷ es) s (Err x) t (inl p) = one_error e es s x t p.1
  all_counted (e ∷ es) s r t (inr p) = one_done e es s p.0 p.1 ∙ all_counted es p.0 r t p.2

-- ---- what is returned for a count of the bits of calls

counted_by : {C E : Type 0} (value : C → ℕ) (most : ℕ) (becomes : Error → E → Type 0) (es : List Encoder)
    (answer : Result (Unit {0}) E) (x : Result ℕ Error) (r : Result C E)
    → counted_bits most es 0 ≡ x → OwnAnswer becomes (in_place answer) x (number_of value r)
    → CountsBits value most becomes es answer r
counted_by value most becomes es answer x r is h = subst
    (λ y. OwnAnswer becomes (in_place answer) y (number_of value r)) (sym is) h

module _ {S C E : Type 0} (K : Sink S) (most : ℕ) (value : C → ℕ) (becomes : Error → E → Type 0)
    (es : List Encoder) (answer : Result (Unit {0}) E) (s t : S) where
  stopped_by : (error : E) (plain : Result (Unit {0}) Error) → counted_bits most es 0
      ≡ result_then plain (λ _. Ok (K.len t)) → OwnAnswer becomes (λ _. answer) plain (Err error)
      → CountsBits value most becomes es answer (Err error)
  stopped_by error (Ok v) is own = counted_by value most becomes es answer (Ok (K.len t)) (Err error) is
      (ap (λ (a : Result (Unit {0}) E). in_place a (K.len t)) own)
  stopped_by error (Err x) is own = counted_by value most becomes es answer (Err x) (Err error) is own

  done_by : (c : C) (plain : Result (Unit {0}) Error) → value c ≡ K.len t → counted_bits most es 0
      ≡ result_then plain (λ _. Ok (K.len t)) → OwnAnswer becomes (λ _. answer) plain (Ok tt)
      → CountsBits value most becomes es answer (Ok c)
  done_by c (Ok v) all is own = counted_by value most becomes es answer (Ok (K.len t)) (Ok c) is (ap Ok all
      ∙ ap (λ (a : Result (Unit {0}) E). in_place a (K.len t)) own)
  done_by c (Err x) all is own = absurd own

  module _ (limit : K.limit ≡ Some most) (sound : (s : S) → K.failed s ≡ false) (never : (x : Refusal) → K.may x
      → ⊥) (start : K.len s ≡ 0) where
    -- after calls on a new counter that returned an error
    pub count_stopped : (error : E) (r : Result C E) → IsErrAnd r (λ y. y ≡ error)
        → WritesOwn K becomes es answer s (Err error) t → CountsBits value most becomes es answer r
    count_stopped error (Ok c) left h = absurd left
    count_stopped error (Err y) left h =
        let all = ap (counted_bits most es) (sym start)
        ∙ all_counted K most limit sound never es s h.plain t h.called in
        subst (λ z. CountsBits value most becomes es answer (Err z)) (sym left) (stopped_by error h.plain all h.answer)

    -- and after calls that were done
    pub count_done : (c : C) → value c ≡ K.len t → WritesOwn K becomes es answer s (Ok tt) t
        → CountsBits value most becomes es answer (Ok c)
    count_done c is h =
        let all = ap (counted_bits most es) (sym start)
        ∙ all_counted K most limit sound never es s h.plain t h.called in
        done_by c h.plain is all h.answer

-- ---- a length that is one in both orders

-- the number, or an error if it is above `most`
abbrev at_most : ℕ → ℕ → Result ℕ Error
at_most most n = if nat_lt most n then Err CounterOverflow else Ok n

behind_word : (most : ℕ) (es : List Encoder) (len n : ℕ) (w : List Bool) (x : Result ℕ Error)
    → sequence_length es (len + length w) ≡ x → result_then x (λ more. Ok (length w + more)) ≡ Ok n
    → ((m : ℕ) → sequence_length es (len + length w) ≡ Ok m → len + length w ≤ most → counted_bits most es (len + length w)
    ≡ at_most most (len + length w + m))
    → (if nat_lt most (len + length w) then Err CounterOverflow else counted_bits most es (len + length w))
    ≡ at_most most (len + n)
behind_word most es len n w (Ok m) run is others =
    let sum : length w + m ≡ n = cc in
    elim (cases_lt most (len + length w)) [
      | inl over ↦ if-true _ _ _ (past most (len + length w) over)
          ∙ sym (if-true _ _ _ (past most (len + n) (omega (arith, sum, over))))
      | inr le ↦ if-false _ _ _ (within most (len + length w) le) ∙ others m run le
          ∙ ap (at_most most) (omega (arith, sum))
    ]
behind_word most es len n w (Err x) run is others = cc

behind_call : (most : ℕ) (es : List Encoder) (len n : ℕ) (x : Result (List Bool) Error)
    → result_then x (λ word. result_then (sequence_length es (len + length word)) (λ more. Ok (length word + more))) ≡ Ok n
    → ((place m : ℕ) → sequence_length es place ≡ Ok m → place ≤ most → counted_bits most es place
    ≡ at_most most (place + m))
    → result_then x (λ word. if nat_lt most (len + length word) then Err CounterOverflow else counted_bits most es
    (len + length word)) ≡ at_most most (len + n)
behind_call most es len n (Ok w) is others = behind_word most es len n w (sequence_length es (len + length w)) refl is
    (λ m. others (len + length w) m)
behind_call most es len n (Err x) is others = cc

-- calls that are all accepted are counted as their length
counted_length : (most : ℕ) (es : List Encoder) (len n : ℕ) → sequence_length es len ≡ Ok n → len ≤ most
    → counted_bits most es len ≡ at_most most (len + n)
counted_length most [] len n is le = let none : n ≡ 0 = cc in ap Ok (omega (arith, none))
    ∙ sym (if-false _ _ _ (within most (len + n) (omega (arith, none, le))))
counted_length most (e ∷ es) len n is le = behind_call most es len n (e len) is
    (λ place m run fine. counted_length most es place m run fine)

-- calls that were done grow a sink by their length
module _ {S : Type 0} (K : Sink S) where
  wrote_word : (e : Encoder) (s t : S) → Writes {T = Unit {0}} K e s (Ok tt) t → (w : List Bool)
      × (e (K.len s) ≡ Ok w) × (K.len t ≡ K.len s + length w)
  wrote_word e s t (had_failed f is k) = cc
  wrote_word e s t (was_rejected y f en is k) = cc
  wrote_word e s t (past_limit w f en over is k) = cc
  wrote_word e s t (was_refused w y f en le is k) = cc
  wrote_word e s t (was_done w v f en le is k) = (w, en, K.appends_len s t w k.grown)

  pub grown_by : (es : List Encoder) (s t : S) → WritesAll K es s (Ok tt) t → (n : ℕ)
      × (sequence_length es (K.len s) ≡ Ok n) × (K.len t ≡ K.len s + n)
  unfolding WritesAll
  grown_by [] s t p = (0, refl, ap K.len p.1 ∙ omega arith)
  grown_by (e ∷ es) s t (inl p) = let z = p.0 in cc
  grown_by (e ∷ es) s t (inr p) =
      let first = wrote_word e s p.0 p.1 in
      let others = grown_by es p.0 t p.2 in
      let w = first.0 in
      let run : sequence_length es (K.len s + length w) ≡ Ok others.0 = ap (sequence_length es) (sym first.2) ∙ others.1 in (
        length w + others.0,
        ap (λ (x : Result (List Bool) Error). result_then x (λ word. result_then (sequence_length es (K.len s + length word))
            (λ more. Ok (length word + more)))) first.1
            ∙ ap (λ (x : Result ℕ Error). result_then x (λ more. Ok (length w + more))) run,
        omega (arith, first.2, others.2),
      )

  -- after calls that were done, the same calls returned an `Ok`
  accepted_answer : {E : Type 0} (becomes : Error → E → Type 0) (answer : Result (Unit {0}) E)
      (es : List Encoder) (s t : S) (plain : Result (Unit {0}) Error) → WritesAll K es s plain t
      → OwnAnswer becomes (λ _. answer) plain (Ok tt)
      → WritesAll K es s (Ok tt) t × (Ok tt ≡ answer)
  accepted_answer becomes answer es s t (Ok v) all own = (all, own)
  accepted_answer becomes answer es s t (Err x) all own = absurd own

pub told : {C E : Type 0} (value : C → ℕ) (most n : ℕ) (becomes : Error → E → Type 0) (r : Result C E)
    → OwnAnswer becomes (in_place {A = Unit {0}} (Ok tt)) (at_most most n) (number_of value r)
    → IsNumberWithin value most becomes n r
told value most n becomes r h = elim (cases_lt most n) [
  | inl over ↦
      let own = subst (λ x. OwnAnswer becomes (in_place {A = Unit {0}} (Ok tt)) x (number_of value r))
      (if-true _ _ _ (past most n over)) h in
      elim r as (λ r. IsErrAnd (number_of value r) (becomes CounterOverflow) → IsNumberWithin value most becomes n r)
      [ Ok c ↦ λ own. absurd own | Err e ↦ λ own. (over, own) ] own
  | inr le ↦
      let own = subst (λ x. OwnAnswer becomes (in_place {A = Unit {0}} (Ok tt)) x (number_of value r))
      (if-false _ _ _ (within most n le)) h in
      elim r as (λ r. number_of value r ≡ Ok n → IsNumberWithin value most becomes n r) [
        | Ok c ↦
            λ own. (cc, le)
        | Err e ↦ λ own. cc
      ] own
]

-- a value was written from an aligned place on, and its bits counted
pub counted_as_appended : {S C E : Type 0} (K : Sink S) (value : C → ℕ) (most : ℕ) (becomes : Error → E
    → Type 0) (encoders : Order → List Encoder) (answer : Result (Unit {0}) E) (old new : S) (bits : Result C E)
    (n : ℕ)
    → HasOneLength encoders → K.len old % 8 ≡ 0 → WritesOwn K becomes (encoders K.order) answer old (Ok tt) new
    → CountsBits value most becomes (encoders High) answer bits → K.len new ≡ K.len old + n
    → IsNumberWithin value most becomes n bits
counted_as_appended K value most becomes encoders answer old new bits n one aligned written counted far =
    let all = accepted_answer K becomes answer (encoders K.order) old new written.plain written.called written.answer in
    let grown = grown_by K (encoders K.order) old new all.0 in
    let same : n ≡ grown.0 = omega (arith, far, grown.2) in
    let run : sequence_length (encoders High) 0 ≡ Ok n = one High K.order 0 (K.len old) (sym aligned) ∙ grown.1
    ∙ ap Ok (sym same) in
    let is : counted_bits most (encoders High) 0 ≡ at_most most n =
    counted_length most (encoders High) 0 n run (omega arith) ∙ ap (at_most most) (omega arith) in
    let own = subst (λ x. OwnAnswer becomes (in_place answer) x (number_of value bits)) is counted in
    told value most n becomes bits (subst (λ a. OwnAnswer becomes (in_place a) (at_most most n) (number_of value bits))
    (sym all.1) own)
