-- Sinks of bits, and the effect of one write call.
use Rattle.std.specs.Prelude.{◌≡◌, ◌⊎◌, ℕ, ◌+◌, ◌*◌, ◌%◌, ◌<◌, ◌≤◌, Bool, true, false, List, [], ◌∷◌, ◌++◌, length, map, Option, Some, None, Result, Ok, Err, IsErr, ⊤}
use Rattle.std.specs.Borrow.{GName, MutBor}
use Rattle.bitstream_order.specs.Reference.{Reference, by_name, capacity_of}
use Rattle.bitstream_number.specs.Word.{Order}
use Rattle.bitstream_count.specs.Codec.{Encoder}
use Rattle.bitstream_count.specs.declared.error.Error.{Error}
use Rattle.bitstream_count.specs.declared.error.Error.TheVariants.{Failed, CounterOverflow}
use Rattle.bitstream_order.specs.Fault.{refusal_of}
use Rattle.bitstream_order.specs.Refusal.{Refusal}

-- a length within the limit, if there is one
abbrev pub IsWithin : Option ℕ → ℕ → Type 0
IsWithin None n = ⊤
IsWithin (Some most) n = n ≤ most

-- a length above the limit
abbrev pub IsPastLimit : Option ℕ → ℕ → Type 0
IsPastLimit None n = ⊥
IsPastLimit (Some most) n = most < n

-- a limit, if there is one, is the greatest number of a type of whole bytes
abbrev pub IsFullLimit : Option ℕ → Type 0
IsFullLimit None = ⊤
IsFullLimit (Some most) = (n : ℕ) × (most + 1 ≡ 8 * n)

-- the meaning of the states of a sink, with the laws
pub record Sink (S : Type 0) : Type 1 where
  pub order : Order
  -- the second state is the first with these bits appended
  pub appends : S → List Bool → S → Type 0
  -- the bytes that its stream holds, if they are known; and the bytes that it would hold with these bits
  -- written after the state
  pub contents : S → Option (List ℕ)
  pub fills : S → List Bool → Option (List ℕ) → Type 0
  -- the number of bits written
  pub len : S → ℕ
  -- the greatest number of bits, for a counter
  pub limit : Option ℕ
  pub failed : S → Bool
  -- the failed requests, the last one first
  pub refusals : S → List Refusal
  -- the failed requests that its stream allows
  pub may : Refusal → Type 0
  -- the references through which the sink and its stream are reached
  pub references : S → List Reference
  pub appends_nil : (s : S) → appends s [] s
  pub appends_trans : (s t u : S) (x y : List Bool) → appends s x t → appends t y u → appends s (x ++ y) u
  pub fills_behind : (s t : S) (x y : List Bool) (known : Option (List ℕ)) → appends s x t → fills t y known
      → fills s (x ++ y) known
  pub within : (s : S) → IsWithin limit (len s)
  pub appends_len : (s t : S) (x : List Bool) → appends s x t → len t ≡ len s + length x
  pub limit_full : IsFullLimit limit

-- bits were appended, and no request failed
pub record Appended {S : Type 0} (K : Sink S) (old : S) (x : List Bool) (new : S) : Type 0 where
  pub grown : K.appends old x new
  pub sound : K.failed new ≡ false
  pub refusals : K.refusals new ≡ K.refusals old
  pub references : K.references new ≡ K.references old

-- nothing was appended, and no request failed
pub record Kept {S : Type 0} (K : Sink S) (old new : S) : Type 0 where
  pub grown : K.appends old [] new
  pub failed : K.failed new ≡ K.failed old
  pub refusals : K.refusals new ≡ K.refusals old
  pub references : K.references new ≡ K.references old

-- A request failed, as the stream allows, and the sink has failed. The encoding x would have filled a byte. Only
-- bytes that a beginning of x filled were sent before, and the bytes of the request are others that x fills. The
-- queue is empty, and the stream is as the failed request left it.
pub record WriteRefused {S : Type 0} (K : Sink S) (old : S) (x : List Bool) (error : Error) (new : S) : Type 0 where
  pub refusal : Refusal
  pub allowed : K.may refusal
  pub answer : error ≡ refusal_of refusal.kind
  pub full : 8 ≤ K.len old % 8 + length x
  pub prefix : List Bool
  pub back : List Bool
  pub parts : x ≡ prefix ++ back
  pub before : K.fills old prefix refusal.before
  pub after : K.contents new ≡ refusal.after
  pub whole : K.len new % 8 ≡ 0
  pub least : K.len old + length prefix < K.len new + 8
  pub most : K.len new ≤ K.len old + length prefix
  pub asked : K.len new + 8 * refusal.wanted ≤ K.len old + length x
  pub capacity : refusal.capacity ≡ capacity_of (K.references old)
  pub refusals : K.refusals new ≡ refusal ∷ K.refusals old
  pub failed : K.failed new ≡ true
  pub references : K.references new ≡ K.references old

-- the effect of one write call, from its encoder
pub data Writes {S T : Type 0} (K : Sink S) (encoder : Encoder) (old : S) (result : Result T Error) (new : S) :
    Type 0 where
  had_failed : K.failed old ≡ true → result ≡ Err Failed → Kept K old new → Writes K encoder old result new
  was_rejected : (error : Error) → K.failed old ≡ false → encoder (K.len old) ≡ Err error → result ≡ Err error
      → Kept K old new
      → Writes K encoder old result new
  past_limit : (word : List Bool) → K.failed old ≡ false → encoder (K.len old) ≡ Ok word
      → IsPastLimit K.limit (K.len old + length word) → result ≡ Err CounterOverflow → Kept K old new
      → Writes K encoder old result new
  was_refused : (word : List Bool) (error : Error) → K.failed old ≡ false → encoder (K.len old) ≡ Ok word
      → IsWithin K.limit (K.len old + length word) → result ≡ Err error → WriteRefused K old word error new
      → Writes K encoder old result new
  was_done : (word : List Bool) (done : T) → K.failed old ≡ false → encoder (K.len old) ≡ Ok word
      → IsWithin K.limit (K.len old + length word) → result ≡ Ok done → Appended K old word new
      → Writes K encoder old result new

-- write calls in order, up to the first that returns an error; for no calls, nothing changes
unfoldable pub WritesAll : {S : Type 0} → Sink S → List Encoder → S → Result (Unit {0}) Error → S → Type 0
WritesAll K [] old result new = (result ≡ Ok tt) × (new ≡ old)
WritesAll {S} K (encoder ∷ encoders) old result new =
    (IsErr result × Writes K encoder old result new)
    ⊎ ((mid : S) × Writes {S = S} {T = Unit {0}} K encoder old (Ok tt) mid × WritesAll K encoders mid result new)

-- states that are seen as states of a sink, reached through references of these names
abbrev pub seen_sink : {R S : Type 0} → (R → S) → (R → List GName) → Sink S → Sink R
seen_sink f names K = record {
  order = K.order;
  appends = λ a x b. K.appends (f a) x (f b);
  contents = λ a. K.contents (f a);
  fills = λ a x known. K.fills (f a) x known;
  len = λ a. K.len (f a);
  limit = K.limit;
  failed = λ a. K.failed (f a);
  refusals = λ a. K.refusals (f a);
  may = K.may;
  references = λ a. map by_name (names a) ++ K.references (f a);
  appends_nil = λ a. K.appends_nil (f a);
  appends_trans = λ a b c x y p q. K.appends_trans (f a) (f b) (f c) x y p q;
  fills_behind = λ a b x y known p q. K.fills_behind (f a) (f b) x y known p q;
  within = λ a. K.within (f a);
  appends_len = λ a b x p. K.appends_len (f a) (f b) x p;
  limit_full = K.limit_full;
}

-- a sink inside a state
abbrev pub inner_sink : {R S : Type 0} → (R → S) → Sink S → Sink R
inner_sink f K = seen_sink f (λ _. []) K

-- a sink that a `&mut` refers to
abbrev pub lent_sink : {S : Type 0} → Sink S → Sink (MutBor S)
lent_sink K = seen_sink (λ a. a.now) (λ a. a.ghost_name ∷ []) K
