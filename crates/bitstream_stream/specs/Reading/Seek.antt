-- The effect of a seek on a reader of bits, and its result.
use Rattle.std.specs.Prelude.{◌≡◌, ℕ, pos, ◌+◌, ◌/◌, ◌%◌, ◌^◌, ◌<◌, ◌≤◌, true, false, List, [], ◌∷◌, length, drop, ⊤, Option, Some, None, IfSome, Result, Ok, Err}
use Rattle.std.specs.declared.io.ErrorKind.{ErrorKind}
use Rattle.std.specs.declared.io.traits.SeekFrom.{SeekFrom}
use Rattle.std.specs.declared.io.traits.SeekFrom.TheVariants.{Start, End, Current}
use Rattle.std.specs.Io.KnownBytes.{Keeps}
use Rattle.std.specs.Io.Seek.{StaysAt, SeekMoves}
use Rattle.bitstream_count.specs.declared.error.Error.{Error}
use Rattle.bitstream_count.specs.declared.error.Error.TheVariants.{Failed, Place}
use Rattle.bitstream_number.specs.Word.{bits}
use Rattle.bitstream_order.specs.Fault.{refusal_of, read_refusal_of}
use Rattle.bitstream_order.specs.Port.{port_stream}
use Rattle.bitstream_order.specs.Refusal.{Refusal, IsTrueEnd}
use Rattle.bitstream_stream.specs.declared.read.reader.BitReader.{BitReader}
use Rattle.bitstream_stream.specs.Alignment.{to_boundary}
use Rattle.bitstream_stream.specs.Reading.Place.{bit_meant, place_of}
use Rattle.bitstream_stream.specs.Reading.Reads.{ReaderState, BitSource, bits_left}

-- a reader that seeks, as a source of bits
pub record SeekerOf (R : Type 0) : Type 1 where
  pub source : BitSource R
  -- the position in bytes of its stream, and all bytes of its stream, if they are known
  pub position : R → Option ℕ
  pub bytes : R → Option (List ℕ)
  -- the failures of a seek to this place that its stream allows
  pub may : SeekFrom → Refusal → Type 0

-- the meaning of the states of a `BitReader` that seeks
abbrev pub reader_seeker : {S E : Type 0} → BitSource (BitReader S E) → (S → Option ℕ) → (S → Option (List ℕ))
    → (SeekFrom → Refusal → Type 0) → SeekerOf (BitReader S E)
reader_seeker source position bytes may = record {
  source = source;
  position = λ r. position (port_stream r.port);
  bytes = λ r. bytes (port_stream r.port);
  may = may;
}

-- if the position and the bytes of the stream are known, the bytes left are the ones after the position
abbrev pub TellsRest : {R : Type 0} → SeekerOf R → Type 0
TellsRest {R} K = (r : R) (at : ℕ) (xs : List ℕ) → K.position r ≡ Some at → K.bytes r ≡ Some xs
    → (K.source.state r).bytes ≡ Some (drop at xs)

-- the position of a reader's stream is known, all its bytes are these, and the bytes left are known
pub record Tells {R : Type 0} (K : SeekerOf R) (r : R) (xs : List ℕ) : Type 0 where
  pub rest : TellsRest K
  pub at : ℕ
  pub position : K.position r ≡ Some at
  pub bytes : K.bytes r ≡ Some xs

-- `at` is the byte from which a seek counts, if it is known: the end of the stream for `End`, its position for
-- `Current`
abbrev pub CountsFrom : Option ℕ → Option (List ℕ) → SeekFrom → ℕ → Type 0
CountsFrom position bytes (Start x) at = ⊤
CountsFrom position bytes (End n) at = IfSome position (λ _. IfSome bytes (λ xs. at ≡ length xs))
CountsFrom position bytes (Current d) at = IfSome position (λ p. at ≡ p)

-- the place in bits that a seek means, if it is from 0 to 2^64 - 1
pub record Means {R : Type 0} (K : SeekerOf R) (to : SeekFrom) (old : R) (place : Option ℕ) : Type 0 where
  pub at : ℕ
  pub counts : CountsFrom (K.position old) (K.bytes old) to at
  pub meant : place_of (bit_meant at (length (K.source.state old).queue) to) ≡ place

-- a seek from the current place of the reader
abbrev pub IsFromHere : SeekFrom → Type 0
IsFromHere (Current d) = ⊤
IsFromHere to = ⊥

-- a reader that has failed does not know its place
abbrev pub KnowsStart : SeekFrom → ReaderState → Type 0
KnowsStart to s = IsFromHere to → s.failed ≡ false

-- The reader continues from the bit at this place. The counts of bits taken and bytes fetched start again at
-- the byte sought.
pub record Lands {R : Type 0} (K : SeekerOf R) (place : ℕ) (old new : R) : Type 0 where
  pub failed : (K.source.state new).failed ≡ false
  pub taken : (K.source.state new).taken ≡ place % 8
  pub fetched : (K.source.state new).fetched ≡ (place % 8 + 7) / 8
  pub queued : length (K.source.state new).queue ≡ to_boundary place
  pub refusals : (K.source.state new).refusals ≡ (K.source.state old).refusals
  pub references : (K.source.state new).references ≡ (K.source.state old).references
  pub left : (xs : List ℕ) → Tells K old xs → bits_left K.source.order (K.source.state new)
      ≡ Some (drop place (bits K.source.order xs))

-- A request failed, as the stream allows, with the error for its kind, and the reader has failed. The stream is as
-- the failed request left it, and this number of fetched bytes stays counted.
pub record RequestRefused {A : Type 0} (error_of : ErrorKind → Error) (may : Refusal → Type 0) (counted : ℕ)
    (old : ReaderState) (result : Result A Error) (new : ReaderState) : Type 0 where
  pub refusal : Refusal
  pub allowed : may refusal
  pub answer : result ≡ Err (error_of refusal.kind)
  pub after : new.bytes ≡ refusal.after
  pub fetched : new.fetched ≡ counted
  pub refusals : new.refusals ≡ refusal ∷ old.refusals
  pub references : new.references ≡ old.references
  pub queue : new.queue ≡ []
  pub failed : new.failed ≡ true

-- a seek in bytes that a seek in bits makes: to a byte that holds a bit, to the end, or to the current position
-- of the stream
abbrev pub IsByteSeek : SeekFrom → Type 0
IsByteSeek (Start n) = n < 2 ^ 61
IsByteSeek (End n) = n ≡ pos 0
IsByteSeek (Current d) = d ≡ pos 0

-- the stream allows one of these seeks to fail so
abbrev pub MaySeek : (SeekFrom → Refusal → Type 0) → Refusal → Type 0
MaySeek may refusal = (to : SeekFrom) × IsByteSeek to × may to refusal

-- a seek of the stream failed, with the error of a failed write
abbrev pub SeekRefused : {R A : Type 0} → SeekerOf R → ℕ → R → Result A Error → R → Type 0
SeekRefused K counted old result new = RequestRefused refusal_of (MaySeek K.may) counted (K.source.state old) result
    (K.source.state new)

-- The request for the byte whose first bits were to be skipped failed, with the error of a failed read. No byte was
-- fetched from the byte sought on. At the end of input the place is past all bytes.
pub record SkipRefused {R A : Type 0} (K : SeekerOf R) (place : ℕ) (old : R) (result : Result A Error) (new : R) :
    Type 0 where
  pub refused : RequestRefused read_refusal_of K.source.may 0 (K.source.state old) result (K.source.state new)
  pub some : 0 < place % 8
  pub ended : IsTrueEnd refused.refusal → (xs : List ℕ) → Tells K old xs → length xs ≤ place / 8

-- going to a place in bits; the reader had fetched `counted` bytes before
pub data GoesTo {R : Type 0} (K : SeekerOf R) (place counted : ℕ) (old : R) (result : Result ℕ Error) (new : R) :
    Type 0 where
  was_done : result ≡ Ok place → Lands K place old new → GoesTo K place counted old result new
  was_refused : SeekRefused K counted old result new → GoesTo K place counted old result new
  was_too_far : SkipRefused K place old result new → GoesTo K place counted old result new

-- a reader that had failed returns `Failed` for a seek from its current place, and nothing changes
pub record HadFailed {R A : Type 0} (K : SeekerOf R) (to : SeekFrom) (old : R) (result : Result A Error) (new : R) :
    Type 0 where
  pub from_here : IsFromHere to
  pub failed : (K.source.state old).failed ≡ true
  pub answer : result ≡ Err Failed
  pub same : new ≡ old

-- the stream was asked for its position; nothing else changed
pub record OnlyAsked {R : Type 0} (K : SeekerOf R) (old new : R) : Type 0 where
  pub same : record (K.source.state new) { bytes = (K.source.state old).bytes } ≡ K.source.state old
  pub position : StaysAt (K.position old) (K.position new)
  pub bytes : Keeps (K.bytes old) (K.bytes new)

-- The reader has failed, with the failed requests that it had. The stream is at its end, if that is known, and the
-- count of fetched bytes starts again there.
pub record Fails {R : Type 0} (K : SeekerOf R) (old new : R) : Type 0 where
  pub failed : (K.source.state new).failed ≡ true
  pub queue : (K.source.state new).queue ≡ []
  pub fetched : (K.source.state new).fetched ≡ 0
  pub refusals : (K.source.state new).refusals ≡ (K.source.state old).refusals
  pub references : (K.source.state new).references ≡ (K.source.state old).references
  pub ended : (xs : List ℕ) → Tells K old xs → (K.source.state new).bytes ≡ Some []

-- a reader whose place is out of range: for `Current` it is unchanged, for `End` it has failed
abbrev pub Stops : {R : Type 0} → SeekerOf R → SeekFrom → R → R → Type 0
Stops K (Start x) old new = ⊥
Stops K (End n) old new = Fails K old new
Stops K (Current d) old new = OnlyAsked K old new

-- the number of fetched bytes that are counted before a reader goes to a place: 0 from the end, else the number
-- counted before
abbrev pub counted_before : SeekFrom → ReaderState → ℕ
counted_before (Start x) s = s.fetched
counted_before (End n) s = 0
counted_before (Current d) s = s.fetched

-- A seek. The reader had failed, and it is a `Current`; or the reader goes to the place that is meant; or a request
-- for the stream's position or its end failed; or no place is meant.
pub data SeeksBits {R : Type 0} (K : SeekerOf R) (to : SeekFrom) (old : R) (result : Result ℕ Error) (new : R) :
    Type 0 where
  had_failed : HadFailed K to old result new → SeeksBits K to old result new
  was_meant : (place : ℕ) → KnowsStart to (K.source.state old) → Means K to old (Some place)
      → GoesTo K place (counted_before to (K.source.state old)) old result new → SeeksBits K to old result new
  was_refused : KnowsStart to (K.source.state old) → SeekRefused K (K.source.state old).fetched old result new
      → SeeksBits K to old result new
  was_rejected : KnowsStart to (K.source.state old) → Means K to old None → result ≡ Err Place → Stops K to old new
      → SeeksBits K to old result new

-- A question for a place that is counted from the reader's current place. The reader had failed; or the place
-- is returned; or a request for the stream's position failed; or no place is meant.
pub data AsksPlace {R : Type 0} (K : SeekerOf R) (to : SeekFrom) (old : R) (result : Result ℕ Error) (new : R) :
    Type 0 where
  had_failed : HadFailed K to old result new → AsksPlace K to old result new
  was_done : (place : ℕ) → (K.source.state old).failed ≡ false → Means K to old (Some place) → result ≡ Ok place
      → OnlyAsked K old new → AsksPlace K to old result new
  was_refused : (K.source.state old).failed ≡ false → SeekRefused K (K.source.state old).fetched old result new
      → AsksPlace K to old result new
  was_rejected : (K.source.state old).failed ≡ false → Means K to old None → result ≡ Err Place → OnlyAsked K old new
      → AsksPlace K to old result new

-- the reader starts again at the position that its stream returned for a seek, with no bits queued
pub record Begins {R : Type 0} (K : SeekerOf R) (to : SeekFrom) (old : R) (at : ℕ) (new : R) : Type 0 where
  pub failed : (K.source.state new).failed ≡ false
  pub queue : (K.source.state new).queue ≡ []
  pub taken : (K.source.state new).taken ≡ 0
  pub fetched : (K.source.state new).fetched ≡ 0
  pub refusals : (K.source.state new).refusals ≡ (K.source.state old).refusals
  pub references : (K.source.state new).references ≡ (K.source.state old).references
  pub moves : SeekMoves {E = Error} (K.position old) (K.position new) (K.bytes old) to (Ok at)
  pub bytes : Keeps (K.bytes old) (K.bytes new)

-- one seek of the stream, and its result
abbrev pub SeeksBytes : {R : Type 0} → SeekerOf R → SeekFrom → R → Result ℕ Error → R → Type 0
SeeksBytes K to old (Ok at) new = Begins K to old at new
SeeksBytes K to old (Err error) new = RequestRefused {A = ℕ} refusal_of (K.may to) (K.source.state old).fetched
    (K.source.state old) (Err error) (K.source.state new)
