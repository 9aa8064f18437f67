-- Parts of a stated size: what the reads and writes in code return.
use Rattle.std.proofs.Common.{◌≡◌, ◌∙◌, inl, inr, ℕ, ◌+◌, ◌%◌, ◌≤◌, ◌==◌, Option, None, Bool, true, false, List, [], ◌∷◌, ◌++◌, length, length-append, Some, Result, Ok, Err, refl, sym, ap, subst, arith}
use Rattle.std.specs.Prelude.{◌↔◌, if◌then◌else◌, IsTrue, IfSome}
use Rattle.std.proofs.lemmas.Bool.{eq-eqb, ne_eqb}
use Rattle.bitstream_count.specs.declared.error.Error.{Error}
use Rattle.bitstream_count.specs.declared.error.Error.TheVariants.{EndOfInput, OutOfMemory}
use Rattle.bitstream_count.specs.Codec.{Prefix, Incomplete, stores}
use Rattle.bitstream_io.specs.Refusal.{TrueEnds}
use Rattle.bitstream_stream.specs.Reading.Reads.{BitSource, ReadsGrowing}
use Rattle.bitstream_stream.specs.Reading.Reads.{had_failed as r_had_failed, was_done as r_was_done, was_refused as r_was_refused, memory_refused as r_memory_refused}
use Rattle.bitstream_stream.specs.Reading.Reader.{new_reader_state}
use Rattle.bitstream_stream.specs.Reading.ReadTable.{bytes_decoder}
use Rattle.bitstream_stream.proofs.Reading.ReadsLemmas.{Consumes-known, parts_left}
use Rattle.bitstream_value.specs.Grows.{GrowingOutcome, by_reads, in_a_read, between_reads}
use Rattle.bitstream_value.specs.Lengths.{counted_bits, CountsBits, in_place, number_of}
use Rattle.bitstream_stream.specs.Writing.Sink.{Sink, Writes, IsWithin, IsPastLimit, had_failed, was_rejected, past_limit, was_refused, was_done}
use Rattle.bitstream_value.proofs.GrowsLemmas.{own_refused, go_grown, vec-grown}
use Rattle.bitstream_io.specs.Callers.{Decoder, Encoder, Done, Order, GrowsOwn, OwnAnswer, Reads, bits, bits_left, same_error, sure_answer, WritesAll, zeros}
use Rattle.bitstream_io.proofs.CallerLemmas.{own_grown_answered, Reads-pure}
use Rattle.bitstream_io.proofs.ReadsLemmas.{Reads-same}
use Rattle.bitstream_format.specs.Within.{fills, within, sized_decoder, UnlessMemory, size_encoder, size_of}

-- ---- a part that was read over its bytes alone

-- an error
end-by : {A E : Type 0} (err : E) (own : Error → E) (ended : E → E) {x : E} (n : ℕ) → ended (own EndOfInput) ≡ err
    → (p : Prefix (Result A E)) → OwnAnswer (λ error y. y ≡ own error) (λ y. y) (sure_answer p) (Err x)
    → Err (ended x) ≡ fills n err own ended p
end-by err own ended n ends Incomplete is = ap (λ z. Err (ended z)) is ∙ ap Err ends
end-by err own ended n ends (Done m (Ok (Ok a))) is = cc
end-by err own ended {x = x} n ends (Done m (Ok (Err y))) is = let same : x ≡ y = cc in ap (λ z. Err (ended z)) same
end-by err own ended n ends (Done m (Err y)) is = ap (λ z. Err (ended z)) is

-- what a count of bits and the place of a reader decide
decided : {A E : Type 0} (err : E) (a : A) (n m k : ℕ) (at_end : Bool) → m ≡ n + k → (IsTrue at_end ↔ (k ≡ 0))
    → (if n == m then Ok a else Err err) ≡ (if at_end then Ok a else Err err)
decided err a n m k true sum end = rw (eq-eqb n m (let none = end.0 refl in omega (arith, sum, none))) refl
decided err a n m k false sum end =
    rw (ne_eqb n m (λ same. let no : false ≡ true = end.1 (omega (arith, sum, same)) in cc)) refl

module _ {R A E : Type 0} {K : BitSource R} (err : E) (own : Error → E) (ended : E → E) {e : Decoder (Result A E)} {s t : R}
    {xs : List ℕ} (new : K.state s ≡ new_reader_state (Some xs) []) where
  -- a value, by whether any bit is left
  ok-reads : (a : A) (at_end : Bool) → Reads K e s (Ok (Ok a)) t
      → ((K.state t).failed ≡ false → IfSome (bits_left K.order (K.state t)) (λ left. IsTrue at_end ↔ (length left ≡ 0)))
      → within e err own ended (bits K.order xs) ≡ (if at_end then Ok a else Err err)
  ok-reads a at_end (r_was_done h) end =
      let known = ap (λ z. z.bytes) new in
      let lost = Consumes-known (K.state s).bytes (K.state t).bytes h.gone xs h.loses known in
      let all : bits K.order xs ≡ h.word ++ (h.rest ++ bits K.order lost.0) =
      ap (λ z. z.queue ++ bits K.order xs) (sym new) ∙ ap (λ l. (K.state s).queue ++ bits K.order l) lost.2
      ∙ parts_left K.order (K.state s).queue h.rest h.word h.gone lost.0 h.parts in
      let left = h.rest ++ bits K.order lost.0 in
      let found : e.reads 0 (bits K.order xs) ≡ Done (length h.word) (Ok (Ok a)) =
      ap (λ l. e.reads 0 l) all ∙ ap (λ z. e.reads z.taken (h.word ++ left)) (sym new) ∙ h.decides left in
      let ends : IfSome (bits_left K.order (K.state t)) (λ left. IsTrue at_end ↔ (length left ≡ 0)) = end h.failed in
      let place : IsTrue at_end ↔ (length left ≡ 0) =
      subst (λ q. IsTrue at_end ↔ (length (q ++ bits K.order lost.0) ≡ 0)) h.queue
      (subst (λ o. IfSome o (λ l. IsTrue at_end ↔ (length l ≡ 0))) (ap (λ b. bits_left K.order (record (K.state t) { bytes = b })) lost.1) ends) in
      rw found (decided err a (length h.word) (length (bits K.order xs)) (length left) at_end
      (ap length all ∙ length-append h.word left) place)
  ok-reads a at_end (r_had_failed h) end = let p = ap (λ z. z.failed) new in let q = h.failed in cc
  ok-reads a at_end (r_was_refused h) end = let p = h.answer in cc
  ok-reads a at_end (r_memory_refused g h) end = let p = h.answer in cc

  ok-grown : (a : A) (at_end : Bool) (plain : Result (Result A E) Error) → GrowingOutcome K e s plain t
      → OwnAnswer (λ error y. y ≡ own error) (λ y. y) plain (Ok a)
      → ((K.state t).failed ≡ false → IfSome (bits_left K.order (K.state t)) (λ left. IsTrue at_end ↔ (length left ≡ 0)))
      → within e err own ended (bits K.order xs) ≡ (if at_end then Ok a else Err err)
  ok-grown a at_end (Ok (Ok v)) (by_reads h) is end =
      let same : v ≡ a = cc in
      ok-reads a at_end (subst (λ w. Reads K e s (Ok (Ok w)) t) same h) end
  ok-grown a at_end (Ok (Err x)) (by_reads h) is end = cc
  ok-grown a at_end (Err x) h is end = absurd is
  ok-grown a at_end (Ok v) (in_a_read h) is end = let p = h.refused.answer in cc
  ok-grown a at_end (Ok v) (between_reads h) is end = let p = h.answer in cc

  pub within-ok : (a : A) (at_end : Bool) → GrowsOwn K (λ error y. y ≡ own error) e s (Ok a) t
      → ((K.state t).failed ≡ false → IfSome (bits_left K.order (K.state t)) (λ left. IsTrue at_end ↔ (length left ≡ 0)))
      → within e err own ended (bits K.order xs) ≡ (if at_end then Ok a else Err err)
  within-ok a at_end h end = ok-grown a at_end h.plain h.called h.answer end

  pub within-err : {x : E} → TrueEnds K.may → ended (own EndOfInput) ≡ err → ended (own OutOfMemory) ≡ own OutOfMemory
      → GrowsOwn K (λ error y. y ≡ own error) e s (Err x) t
      → UnlessMemory own (within e err own ended (bits K.order xs)) (Err (ended x))
  within-err {x = x} sure ends memory h = elim (own_grown_answered sure new refl h) [
    | inl found ↦ inl (end-by err own ended (length (bits K.order xs)) ends (e.reads 0 (bits K.order xs)) found)
    | inr lack ↦ inr (ap (λ z. Err (ended z)) lack.0 ∙ ap Err memory)
  ]

-- ---- the bytes of a part, and then the part

pub fine_by : {R : Type 0} {K : BitSource R} (o : Order) (n : ℕ) {xs : List ℕ} {s t : R} → ReadsGrowing K (bytes_decoder o n) s (Ok xs) t
    → (K.state t).failed ≡ false
unfolding bytes_decoder
fine_by o n (r_had_failed h) = let p = h.answer in cc
fine_by o n (r_was_done h) = h.failed
fine_by o n (r_was_refused h) = let p = h.answer in cc
fine_by o n (r_memory_refused g h) = let p = h.answer in cc

module _ {R A E : Type 0} {K : BitSource R} {own : Error → E} {r : Result A E} where
  pub stored-by : {known : Result A E} {s : R} → (K.state s).failed ≡ false → UnlessMemory own known r
      → GrowsOwn K (λ error y. y ≡ own error) (stores known) s r s
  stored-by {known = known} {s = s} fine (inl is) = record {
    plain = Ok known;
    called = by_reads (Reads-same (record { reads = λ p b. refl; on_failed = refl }) (Reads-pure known s));
    answer = is;
  }
  stored-by {known = known} {s = s} fine (inr is) = own_refused (stores known) r s fine refl (rw is refl)

  pub sized-grown : (decoder : Order → Decoder (Result A E)) (err : E) (ended : E → E) {o p : Order} (n : ℕ) {xs : List ℕ} {s t : R}
      → o ≡ p → ReadsGrowing K (bytes_decoder o n) s (Ok xs) t
      → UnlessMemory own (within (decoder p) err own ended (bits p xs)) r
      → GrowsOwn K (λ error y. y ≡ own error) (sized_decoder decoder err own ended o n) s r t
  sized-grown decoder err ended {o = o} n {xs = xs} same read told =
      go_grown _ (vec-grown o n read) (stored-by (fine_by o n read)
      (subst (λ q. UnlessMemory own (within (decoder q) err own ended (bits q xs)) r) (sym same) told))

-- ---- a write that fails without a request

never_past : (limit : Option ℕ) (n : ℕ) → IsWithin limit n → IsPastLimit limit (n + 0) → ⊥
never_past None n le past = past
never_past (Some most) n le past = omega (arith, le, past)

module _ {S : Type 0} (K : Sink S) (x : Error) (s t : S) where
  -- no bit was written, so the sink had not failed
  pub rejects-after : Writes {T = Unit {0}} K (zeros 0) s (Ok tt) t → Writes {T = Unit {0}} K (λ at. Err x) s (Err x) t
  rejects-after (was_done word v fine is le done k) =
      let none : [] ≡ word = cc in
      was_rejected x fine refl refl (record {
        grown = subst (λ w. K.appends s w t) (sym none) k.grown;
        failed = k.sound ∙ sym fine;
        refusals = k.refusals;
        references = k.references;
      })
  rejects-after (had_failed f is k) = cc
  rejects-after (was_rejected y f en is k) = cc
  rejects-after (past_limit w f en over is k) = cc
  rejects-after (was_refused w y f en le is k) = cc

  -- no bit could be written, since the sink had failed
  pub rejects-failed : {d : Error} → Writes {T = Unit {0}} K (zeros 0) s (Err d) t
      → Writes {T = Unit {0}} K (λ at. Err x) s (Err d) t
  rejects-failed (had_failed f is k) = had_failed f is k
  rejects-failed (was_rejected y f en is k) = cc
  rejects-failed (past_limit w f en over is k) =
      let none : [] ≡ w = cc in
      absurd (never_past K.limit (K.len s) (K.within s) (subst (λ v. IsPastLimit K.limit (K.len s + length v)) (sym none) over))
  rejects-failed (was_refused w y f en le is k) =
      let none : [] ≡ w = cc in
      let full : 8 ≤ K.len s % 8 + length {A = Bool} [] = subst (λ v. 8 ≤ K.len s % 8 + length v) (sym none) k.full in
      absurd (omega (arith, full))
  rejects-failed (was_done w v f en le is k) = cc

-- a count of bits by `bits` of the library
number-same : (r : Result ℕ Error) → number_of (λ x. x) r ≡ r
number-same (Ok n) = refl
number-same (Err x) = refl

counted-by : (counted : Result ℕ Error) (r : Result ℕ Error)
    → OwnAnswer same_error (in_place {A = Unit {0}} (Ok tt)) counted (number_of (λ x. x) r) → counted ≡ r
counted-by (Ok n) r is = sym is ∙ number-same r
counted-by (Err x) (Ok n) is = absurd is
counted-by (Err x) (Err y) is = ap Err (sym is)

pub counts-is : (encoders : List Encoder) {r : Result ℕ Error}
    → CountsBits (λ x. x) 18446744073709551615 same_error encoders (Ok tt) r
    → counted_bits 18446744073709551615 encoders 0 ≡ r
counts-is encoders {r = r} is = counted-by (counted_bits 18446744073709551615 encoders 0) r is

-- the size of a part whose bits were counted is written
pub size-wrote : {S : Type 0} (K : Sink S) (o : Order) (width : ℕ) (encoders : List Encoder) (r : Result ℕ Error) (s t : S)
    (x : Result (Unit {0}) Error) → CountsBits (λ x. x) 18446744073709551615 same_error encoders (Ok tt) r
    → WritesAll K (size_of o width r ∷ []) s x t → WritesAll K (size_encoder o width encoders ∷ []) s x t
unfolding size_encoder
size-wrote K o width encoders r s t x counted wrote =
    subst (λ n. WritesAll K (size_of o width n ∷ []) s x t) (sym (counts-is encoders counted)) wrote
