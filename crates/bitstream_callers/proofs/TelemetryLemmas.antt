-- Calls on a new writer to a vector: which errors they have, and what was accepted.
use Rattle.std.proofs.Common.{◌≡◌, ◌∙◌, ◌⊎◌, ℕ, zero, ◌+◌, ◌≤◌, ◌<◌, ◌∷◌, [], List, length, length-append, None, Some, Result, Ok, Err, Bool, ℤ, false, true, inl, inr, sym, ap, subst, arith}
use Rattle.std.specs.Prelude.{IfErr, nat_lt, ◌==◌, ◌||◌, ◌^◌, if◌then◌else◌}
use Rattle.std.specs.Result.{IsErrAnd}
use Rattle.bitstream_io.specs.Callers.{AllAccepted, Error, Order, High, OutOfMemory, Sink, Encoder, WritesAll, align, bit, word, write_sequence, sequence_length}
use Rattle.bitstream_io.specs.Fault.{refusal_of}
use Rattle.bitstream_io.specs.Growing.{growing_stream}
use Rattle.bitstream_io.specs.Refusal.{MayRefuseWrite, Refusal}
use Rattle.bitstream_io.specs.Sequence.{accepted_bits}
use Rattle.bitstream_io.specs.Sink.{IsPastLimit, Writes}
use Rattle.bitstream_io.specs.Word.{signed_word}
use Rattle.bitstream_io.specs.WriteTable.{fits_signed, signed, unsigned}
use Rattle.bitstream_io.proofs.LengthLemmas.{grown_by}
use Rattle.bitstream_io.proofs.PackIntoLemmas.{IsFaultOf, IsRoomy, align_error, all_error, error_within, accepted-run, run-accepted}
use Rattle.bitstream_io.proofs.WordLemmas.{length-word}
use Rattle.bitstream_io.proofs.WriteSteps.{sequence_appended}
use Rattle.bitstream_callers.specs.declared.sample.Sample.{Sample}
use Rattle.bitstream_callers.specs.Sample.{sample_writes}
use Rattle.bitstream_callers.specs.Telemetry.{IsMisfitOrMemory}

-- what holds of the error that a `?` returned
pub if_error : {A : Type 0} (r : Result A Error) (x : Error) (P : Error → Type 0) → IsErrAnd r (λ y. y ≡ x) → P x
    → IfErr r P
if_error (Ok a) x P h p = absurd h
if_error (Err y) x P h p = subst P (sym h) p

-- a vector refuses only memory
pub growth : {A : Type 0} (x : Refusal) → MayRefuseWrite (growing_stream {A = A}) x → refusal_of x.kind ≡ OutOfMemory
growth x may = ap refusal_of may.refused.memory

module _ {S : Type 0} (K : Sink S) (free : K.limit ≡ None) (memory : (x : Refusal) → K.may x → refusal_of x.kind
    ≡ OutOfMemory) (es : List Encoder) (a : S) (started : K.len a ≡ 0) (sound : K.failed a ≡ false) where
  -- the error of the calls
  pub failed_write : (x : Error) (t : S) → WritesAll K es a (Err x) t → IsMisfitOrMemory es x
  failed_write x t h = elim (all_error K free es a x t sound h) [
    | inl own ↦ inl (ap (sequence_length es) (sym started) ∙ own)
    | inr fault ↦ inr (fault.2 ∙ memory fault.0 fault.1)
  ]

  -- and of an alignment behind them
  pub failed_align : (m : S) (x : Error) (t : S) → WritesAll K es a (Ok tt) m → Writes {T = Unit {0}} K align m (Err x) t
      → IsMisfitOrMemory es x
  failed_align m x t h k =
      let fault = align_error K free m x t (sequence_appended K es a m sound h).sound k in
      inr (fault.2 ∙ memory fault.0 fault.1)

  -- calls that were done were accepted
  pub done_accepted : (m : S) → WritesAll K es a (Ok tt) m → AllAccepted es 0
  done_accepted m h =
      let all = grown_by K es a m h in
      (run-accepted es 0 all.0 (ap (sequence_length es) (sym started) ∙ all.1)).0

-- calls that are all accepted have no error but a failed allocation
pub only_memory : (es : List Encoder) (x : Error) → AllAccepted es 0 → IsMisfitOrMemory es x → x ≡ OutOfMemory
only_memory es x all (inl own) = let none = sym own ∙ accepted-run es 0 all in cc
only_memory es x all (inr memory) = memory

-- and so were those of a counter
pub counted_accepted : {S : Type 0} (K : Sink S) (es : List Encoder) (s t : S) → K.len s ≡ 0
    → WritesAll K es s (Ok tt) t → AllAccepted es 0
counted_accepted K es s t start h =
    let all = grown_by K es s t h in
    (run-accepted es 0 all.0 (ap (sequence_length es) (sym start) ∙ all.1)).0

-- ---- calls that a counter has room for

-- at most n bits of calls are accepted, wherever they begin
pub record IsAtMost (es : List Encoder) (n : ℕ) : Type 0 where
  pub most : (len : ℕ) → length (write_sequence es len) ≤ n

-- the error of calls on a counter that has room for all of them
pub counted_error : {S : Type 0} (K : Sink S) (most : ℕ) → K.limit ≡ Some most → ((x : Refusal) → K.may x → ⊥)
    → (es : List Encoder) (s : S) (x : Error) (t : S) → K.len s ≡ 0 → K.failed s ≡ false → IsAtMost es most
    → WritesAll K es s (Err x) t → sequence_length es 0 ≡ Err x
counted_error K most is never es s x t start sound few h =
    let all = few.most (K.len s) in
    let room : IsRoomy K (K.len s + length (write_sequence es (K.len s))) = λ m le past.
    let over : most < m = subst (λ l. IsPastLimit l m) is past in absurd (omega (arith, le, over, all, start)) in
    ap (sequence_length es) (sym start) ∙ elim (error_within K es s x t sound room h) [
      | inl own ↦ own
      | inr fault ↦ absurd (never fault.0 fault.1)
    ]

-- no call
none-most : IsAtMost [] 0
none-most = record { most = λ len. omega arith }

-- a call of at most n bits before others
more-most : {e : Encoder} {es : List Encoder} {m : ℕ} (n : ℕ) → ((len : ℕ) → length (accepted_bits (e len)) ≤ n)
    → IsAtMost es m → IsAtMost (e ∷ es) (n + m)
more-most {e = e} {es = es} n first rest = record {
  most = λ len.
      let w = accepted_bits (e len) in
      let here = first len in
      let behind = rest.most (len + length w) in
      let all = length-append w (write_sequence es (len + length w)) in
      omega (arith, here, behind, all);
}

or_error : (d : Bool) (w : List Bool) (x : Error) (n : ℕ) → length w ≡ n
    → length (accepted_bits (if d then Ok w else Err x)) ≤ n
or_error true w x n is = omega (arith, is)
or_error false w x n is = omega arith

error_or : (c : Bool) (x : Error) (r : Result (List Bool) Error) (n : ℕ) → length (accepted_bits r) ≤ n
    → length (accepted_bits (if c then Err x else r)) ≤ n
error_or true x r n few = omega arith
error_or false x r n few = few

unsigned-most : (o : Order) (size n v len : ℕ) → length (accepted_bits (unsigned o size n v len)) ≤ n
unfolding unsigned
unsigned-most o size n v len = error_or (nat_lt size n) _ _ n
    (or_error ((n == 0) || nat_lt v (2 ^ n)) (word o n v) _ n (length-word o n v))

signed-most : (o : Order) (size n : ℕ) (x : ℤ) (len : ℕ) → length (accepted_bits (signed o size n x len)) ≤ n
unfolding signed
signed-most o size n x len = error_or (n == 0) _ _ n (error_or (nat_lt size n) _ _ n
    (or_error (fits_signed n x) (signed_word o n x) _ n (length-word o n _)))

bit-most : (b : Bool) (len : ℕ) → length (accepted_bits (bit b len)) ≤ 1
bit-most b len = omega arith

-- a sample is at most 48 bits long
pub sample-most : (value : Sample) → IsAtMost (sample_writes High value) 48
sample-most value =
    more-most 20 (unsigned-most High 32 20 value.seconds)
    (more-most 1 (bit-most value.running)
    (more-most 9 (signed-most High 16 9 value.temperature)
    (more-most 18 (unsigned-most High 32 18 value.pressure) none-most)))
