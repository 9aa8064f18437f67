-- The bits that are taken from a port up to a stop bit.
use Rattle.std.specs.Prelude.{◌≡◌, ℕ, ◌+◌, ◌^◌, ◌<◌, ◌++◌, Bool, not, List, [], ◌∷◌, length, replicate, Option, Some, None, Result, Ok, Err}
use Rattle.std.specs.Io.KnownBytes.{Consumes}
use Rattle.bitstream_count.specs.declared.error.Error.{Error}
use Rattle.bitstream_count.specs.Unary.{unary}
use Rattle.bitstream_number.specs.Word.{Order, word, bits}
use Rattle.bitstream_order.specs.Parts.{first_part}
use Rattle.bitstream_order.specs.Port.{PortState, Fetched, FetchRefused}
use Rattle.bitstream_order.specs.Refusal.{Refusal}
use Rattle.bitstream_order.specs.declared.kernels.unary.TakenUnary.{TakenUnary}

-- one byte was fetched, or the request for it failed
abbrev pub FetchesByte : (Refusal → Type 0) → PortState → Result ℕ Error → PortState → Type 0
FetchesByte may old (Ok byte) new = Fetched old (byte ∷ []) new
FetchesByte may old (Err error) new = FetchRefused may error old 1 new

-- Before: the bits x, and then the bits of the port. After: the bits w were taken, and the bits y are left before the
-- bits of the port.
pub record TakesBetween (o : Order) (x : List Bool) (old : PortState) (w y : List Bool) (new : PortState) : Type 0 where
  pub bytes : List ℕ
  pub loses : Consumes old.bytes new.bytes bytes
  pub fetched : new.fetched ≡ old.fetched + length bytes
  pub refusals : new.refusals ≡ old.refusals
  pub references : new.references ≡ old.references
  pub word : x ++ bits o bytes ≡ w ++ y

-- a run was too long: its 2^32 bits were taken, and fewer than 8 bits are left after them
pub record TakesLongUnary (o : Order) (stop : Bool) (x : List Bool) (old new : PortState) : Type 0 where
  pub count : ℕ
  pub long : count ≡ 2 ^ 32
  pub left : List Bool
  pub few : length left < 8
  pub takes : TakesBetween o x old (replicate count (not stop)) left new

-- the request for a byte failed after bits that are not the stop bit
pub record RefusesUnary (may : Refusal → Type 0) (o : Order) (stop : Bool) (x : List Bool) (old : PortState)
    (error : Error) (new : PortState) : Type 0 where
  pub count : ℕ
  pub few : count < 2 ^ 32
  pub mid : PortState
  pub takes : TakesBetween o x old (replicate count (not stop)) [] mid
  pub refused : FetchRefused may error mid 1 new

-- A unary read, with the bits x before the bits of the port. The encoding of the number was taken, and the bits after
-- it are left; or the run was too long; or the request for a byte failed.
abbrev pub TakesUnary : (Refusal → Type 0) → Order → Bool → List Bool → PortState → Result (Option TakenUnary) Error
    → PortState → Type 0
TakesUnary may o stop x old (Ok (Some r)) new =
    TakesBetween o x old (unary stop r.count) (word o r.queued (first_part o r.left 8 r.queued)) new
TakesUnary may o stop x old (Ok None) new = TakesLongUnary o stop x old new
TakesUnary may o stop x old (Err error) new = RefusesUnary may o stop x old error new
