-- Sinks of bytes, and the effect of one write call.
use Rattle.std.specs.Prelude.{◌≡◌, ℕ, ◌+◌, ◌<◌, ◌≤◌, List, [], ◌∷◌, ◌++◌, length, Option, Result, Ok, Err}
use Rattle.std.specs.Borrow.{MutBor}
use Rattle.std.specs.Io.KnownBytes.{Appends}
use Rattle.bitstream_order.specs.Reference.{Reference, by_name, capacity_of}
use Rattle.bitstream_number.specs.Word.{Order}
use Rattle.bitstream_count.specs.declared.error.Error.{Error}
use Rattle.bitstream_count.specs.declared.error.Error.TheVariants.{CounterOverflow}
use Rattle.bitstream_order.specs.Fault.{refusal_of}
use Rattle.bitstream_order.specs.Refusal.{Refusal}
use Rattle.bitstream_stream.specs.Writing.Sink.{IsWithin, IsPastLimit}

-- the meaning of the states of a sink of bytes, with the laws
pub record ByteSink (S : Type 0) : Type 1 where
  pub order : Order
  -- the second state is the first with these bytes appended
  pub appends : S → List ℕ → S → Type 0
  -- the bytes that its stream holds, if they are known
  pub contents : S → Option (List ℕ)
  -- the number of bytes written
  pub len : S → ℕ
  -- the greatest number of bytes, for a counter
  pub limit : Option ℕ
  -- the failed requests, the last one first
  pub refusals : S → List Refusal
  -- the failed requests that its stream allows
  pub may : Refusal → Type 0
  -- the references through which the sink and its stream are reached
  pub references : S → List Reference
  pub appends_nil : (s : S) → appends s [] s
  pub appends_trans : (s t u : S) (x y : List ℕ) → appends s x t → appends t y u → appends s (x ++ y) u
  pub grows : (s t : S) (x : List ℕ) → appends s x t → Appends (contents s) (contents t) x
  pub within : (s : S) → IsWithin limit (len s)
  pub appends_len : (s t : S) (x : List ℕ) → appends s x t → len t ≡ len s + length x

-- bytes were appended, and no request failed
pub record BytesAppended {S : Type 0} (K : ByteSink S) (old : S) (bytes : List ℕ) (new : S) : Type 0 where
  pub grown : K.appends old bytes new
  pub refusals : K.refusals new ≡ K.refusals old
  pub references : K.references new ≡ K.references old

-- A request failed, as the stream allows. A proper beginning of the bytes was sent before, and the request had at
-- most the number of bytes left. The failed request left the stream as it is.
pub record ByteWriteRefused {S : Type 0} (K : ByteSink S) (old : S) (bytes : List ℕ) (error : Error) (new : S) :
    Type 0 where
  pub refusal : Refusal
  pub allowed : K.may refusal
  pub answer : error ≡ refusal_of refusal.kind
  pub prefix : List ℕ
  pub back : List ℕ
  pub parts : bytes ≡ prefix ++ back
  pub some : 0 < length back
  pub asked : refusal.wanted ≤ length back
  pub capacity : refusal.capacity ≡ capacity_of (K.references old)
  pub before : Appends (K.contents old) refusal.before prefix
  pub after : K.contents new ≡ refusal.after
  pub sent : K.len new ≡ K.len old + length prefix
  pub refusals : K.refusals new ≡ refusal ∷ K.refusals old
  pub references : K.references new ≡ K.references old

-- the effect of one call that writes these bytes
pub data ByteWrites {S T : Type 0} (K : ByteSink S) (bytes : List ℕ) (old : S) (result : Result T Error) (new : S) :
    Type 0 where
  past_limit : IsPastLimit K.limit (K.len old + length bytes) → result ≡ Err CounterOverflow
      → BytesAppended K old [] new
      → ByteWrites K bytes old result new
  was_refused : (error : Error) → IsWithin K.limit (K.len old + length bytes) → result ≡ Err error
      → ByteWriteRefused K old bytes error new
      → ByteWrites K bytes old result new
  was_done : (done : T) → IsWithin K.limit (K.len old + length bytes) → result ≡ Ok done → BytesAppended K old bytes new
      → ByteWrites K bytes old result new

-- a sink of bytes that a `&mut` refers to
abbrev pub lent_byte_sink : {S : Type 0} → ByteSink S → ByteSink (MutBor S)
lent_byte_sink K = record {
  order = K.order;
  appends = λ a x b. K.appends a.now x b.now;
  contents = λ a. K.contents a.now;
  len = λ a. K.len a.now;
  limit = K.limit;
  refusals = λ a. K.refusals a.now;
  may = K.may;
  references = λ a. by_name a.ghost_name ∷ K.references a.now;
  appends_nil = λ a. K.appends_nil a.now;
  appends_trans = λ a b c x y p q. K.appends_trans a.now b.now c.now x y p q;
  grows = λ a b x p. K.grows a.now b.now x p;
  within = λ a. K.within a.now;
  appends_len = λ a b x p. K.appends_len a.now b.now x p;
}
