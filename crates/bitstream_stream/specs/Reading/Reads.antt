-- The effect of one read on a reader.
use Rattle.std.specs.Prelude.{◌≡◌, ℕ, ◌+◌, ◌*◌, ◌/◌, ◌≤◌, Bool, true, false, if◌then◌else◌, List, [], ◌∷◌, ◌++◌, length, Option, option_map, Some, Result, Ok, Err}
use Rattle.std.specs.Borrow.{GName, MutBor}
use Rattle.std.specs.Result.{IsErrAnd}
use Rattle.std.specs.Io.KnownBytes.{Consumes}
use Rattle.bitstream_order.specs.Reference.{Reference, by_name}
use Rattle.bitstream_count.specs.declared.error.Error.{Error}
use Rattle.bitstream_count.specs.declared.error.Error.TheVariants.{RunTooLong, OutOfMemory, EndOfInput}
use Rattle.bitstream_count.specs.Codec.{Decoder, Prefix, Incomplete, Done}
use Rattle.bitstream_number.specs.Word.{Order, bits}
use Rattle.bitstream_order.specs.Fault.{read_refusal_of}
use Rattle.bitstream_order.specs.Refusal.{Refusal, IsTrueEnd}

-- the known state of a reader
pub record ReaderState : Type 0 where
  -- the bits that were fetched and not taken, and the bytes left in the stream, if they are known
  pub queue : List Bool
  pub bytes : Option (List ℕ)
  -- the number of bits taken so far, and of bytes fetched from the stream for them
  pub taken : ℕ
  pub fetched : ℕ
  pub failed : Bool
  -- the failed requests to the stream, the last one first
  pub refusals : List Refusal
  -- the references through which the stream is reached
  pub references : List Reference

-- a reader has fetched only the bytes of the bits taken
abbrev pub Demands : ReaderState → Type 0
Demands s = s.fetched ≡ (s.taken + 7) / 8

-- the bits fetched and not taken are queued
abbrev pub QueuesRest : ReaderState → Type 0
QueuesRest s = s.failed ≡ false → s.taken + length s.queue ≡ 8 * s.fetched

-- the queue of a reader that has failed is empty
abbrev pub Empties : ReaderState → Type 0
Empties s = s.failed ≡ true → s.queue ≡ []

-- a reader as a source of bits, with the laws of its states
pub record BitSource (R : Type 0) : Type 1 where
  pub order : Order
  pub state : R → ReaderState
  -- the failed requests that its stream allows
  pub may : Refusal → Type 0
  pub demands : (r : R) → Demands (state r)
  pub holds : (r : R) → QueuesRest (state r)
  pub empties : (r : R) → Empties (state r)

-- the bits left to read, if its contents are known
abbrev pub bits_left : Order → ReaderState → Option (List Bool)
bits_left o s = option_map (λ xs. s.queue ++ bits o xs) s.bytes

-- true if the result is `RunTooLong`, which leaves the reader failed
abbrev pub is_run_too_long : {A : Type 0} → Result A Error → Bool
is_run_too_long (Err RunTooLong) = true
is_run_too_long answer = false

-- the reader had failed: the result is `on_failed` of the decoder, and nothing changes
pub record HadFailed {A : Type 0} (decoder : Decoder A) (old : ReaderState) (result : Result A Error)
    (new : ReaderState) : Type 0 where
  pub failed : old.failed ≡ true
  pub answer : result ≡ decoder.on_failed
  pub same : new ≡ old

-- The call takes the bits `word`, and returns the result that they decide, whatever bits follow. No proper prefix of
-- `word` decides a result. The old queue and the bits of the bytes fetched are `word` and then the new queue. After
-- `RunTooLong` the new queue is empty.
pub record ReadDone {A : Type 0} (o : Order) (decoder : Decoder A) (old : ReaderState) (result : Result A Error)
    (new : ReaderState) : Type 0 where
  pub fine : old.failed ≡ false
  pub word : List Bool
  pub decides : (more : List Bool) → decoder.reads old.taken (word ++ more) ≡ Done (length word) result
  pub needs : (prefix : List Bool) (b : Bool) (back : List Bool) → word ≡ prefix ++ b ∷ back → decoder.reads old.taken prefix
      ≡ Incomplete
  pub gone : List ℕ
  pub loses : Consumes old.bytes new.bytes gone
  pub rest : List Bool
  pub parts : old.queue ++ bits o gone ≡ word ++ rest
  pub queue : new.queue ≡ (if is_run_too_long result then [] else rest)
  pub fetched : new.fetched ≡ old.fetched + length gone
  pub taken : new.taken ≡ old.taken + length word
  pub refusals : new.refusals ≡ old.refusals
  pub references : new.references ≡ old.references
  pub failed : new.failed ≡ is_run_too_long result

-- calls that all returned values took these bits
pub record Took (o : Order) (old : ReaderState) (word : List Bool) (new : ReaderState) : Type 0 where
  pub fine : old.failed ≡ false
  pub gone : List ℕ
  pub loses : Consumes old.bytes new.bytes gone
  pub parts : old.queue ++ bits o gone ≡ word ++ new.queue
  pub fetched : new.fetched ≡ old.fetched + length gone
  pub taken : new.taken ≡ old.taken + length word
  pub refusals : new.refusals ≡ old.refusals
  pub references : new.references ≡ old.references
  pub failed : new.failed ≡ false

-- A request failed, as the stream allows, and the reader has failed. The queue was too short for the call, also with
-- the bytes fetched before. At the end of input all bits left were too few. The stream lost the bytes fetched, and is
-- as the failed request left it. The reader does not move back.
pub record ReadRefused {A : Type 0} (o : Order) (may : Refusal → Type 0) (decoder : Decoder A)
    (old : ReaderState) (result : Result A Error) (new : ReaderState) : Type 0 where
  pub fine : old.failed ≡ false
  pub refusal : Refusal
  pub allowed : may refusal
  pub answer : result ≡ Err (read_refusal_of refusal.kind)
  pub short : decoder.reads old.taken old.queue ≡ Incomplete
  pub gone : List ℕ
  pub loses : Consumes old.bytes refusal.before gone
  pub after : new.bytes ≡ refusal.after
  pub fetched : new.fetched ≡ old.fetched + length gone
  pub least : old.taken ≤ new.taken
  pub few : decoder.reads old.taken (old.queue ++ bits o gone) ≡ Incomplete
  pub ended : IsTrueEnd refusal → (xs : List ℕ) → old.bytes ≡ Some xs → decoder.reads old.taken (old.queue ++ bits o xs)
      ≡ Incomplete
  pub refusals : new.refusals ≡ refusal ∷ old.refusals
  pub references : new.references ≡ old.references
  pub failed : new.failed ≡ true

-- An allocation of the call itself failed, and the reader has failed. The bits that were taken until then were too
-- few for the call, so a call for no bits never reports a failed allocation.
pub record MemoryRefused {A : Type 0} (o : Order) (decoder : Decoder A) (old : ReaderState)
    (result : Result A Error) (new : ReaderState) : Type 0 where
  pub fine : old.failed ≡ false
  pub answer : result ≡ Err OutOfMemory
  pub word : List Bool
  pub few : decoder.reads old.taken word ≡ Incomplete
  pub gone : List ℕ
  pub loses : Consumes old.bytes new.bytes gone
  pub rest : List Bool
  pub parts : old.queue ++ bits o gone ≡ word ++ rest
  pub fetched : new.fetched ≡ old.fetched + length gone
  pub taken : new.taken ≡ old.taken + length word
  pub refusals : new.refusals ≡ old.refusals
  pub references : new.references ≡ old.references
  pub failed : new.failed ≡ true

-- one read, from the meaning of the call; `grows` is true if the call allocates
pub data ReadOutcome {R A : Type 0} (K : BitSource R) (grows : Bool) (decoder : Decoder A) (old : R)
    (result : Result A Error) (new : R) : Type 0 where
  had_failed : HadFailed decoder (K.state old) result (K.state new) → ReadOutcome K grows decoder old result new
  was_done : ReadDone K.order decoder (K.state old) result (K.state new) → ReadOutcome K grows decoder old result new
  was_refused : ReadRefused K.order K.may decoder (K.state old) result (K.state new)
      → ReadOutcome K grows decoder old result new
  memory_refused : grows ≡ true → MemoryRefused K.order decoder (K.state old) result (K.state new)
      → ReadOutcome K grows decoder old result new

-- one read
abbrev pub Reads : {R A : Type 0} → BitSource R → Decoder A → R → Result A Error → R → Type 0
Reads K decoder old result new = ReadOutcome K false decoder old result new

-- one read that allocates memory itself
abbrev pub ReadsGrowing : {R A : Type 0} → BitSource R → Decoder A → R → Result A Error → R → Type 0
ReadsGrowing K decoder old result new = ReadOutcome K true decoder old result new

-- the same reader, which has failed and has an empty queue
abbrev pub failed_reader : ReaderState → ReaderState
failed_reader s = record s { failed = true; queue = [] }

-- the same reader, seen through a reference of this name
abbrev pub lent : GName → ReaderState → ReaderState
lent name s = record s { references = by_name name ∷ s.references }

-- a reader that a `&mut` refers to
abbrev pub lent_source : {R : Type 0} → BitSource R → BitSource (MutBor R)
lent_source K = record {
  order = K.order;
  state = λ r. lent r.ghost_name (K.state r.now);
  may = K.may;
  demands = λ r. K.demands r.now;
  holds = λ r. K.holds r.now;
  empties = λ r. K.empties r.now;
}

-- a reader inside a state
abbrev pub inner_source : {S R : Type 0} → (S → R) → BitSource R → BitSource S
inner_source f K = record {
  order = K.order;
  state = λ s. K.state (f s);
  may = K.may;
  demands = λ s. K.demands (f s);
  holds = λ s. K.holds (f s);
  empties = λ s. K.empties (f s);
}

-- the result of a call that compares, with an error type of its own
abbrev pub ConstAnswer : {E : Type 0} → (Error → E → Type 0) → E → Result Bool Error → Result (Unit {0}) E → Type 0
ConstAnswer gives err (Ok true) result = result ≡ Ok tt
ConstAnswer gives err (Ok false) result = result ≡ Err err
ConstAnswer gives err (Err x) result = IsErrAnd result (gives x)

-- a call that returns `err` if a number differs from the expected one, and converts any other error into its own
-- type
pub record ReadsConst {R E : Type 0} (K : BitSource R) (gives : Error → E → Type 0) (decoder : Decoder Bool)
    (err : E) (old : R) (result : Result (Unit {0}) E) (new : R) : Type 0 where
  pub plain : Result Bool Error
  pub reads : Reads K decoder old plain new
  pub answer : ConstAnswer gives err plain result

-- the result of a call if all bits left are known: the result of its prefix, or the end
abbrev pub sure_answer : {A : Type 0} → Prefix A → Result A Error
sure_answer Incomplete = Err EndOfInput
sure_answer (Done n answer) = answer
