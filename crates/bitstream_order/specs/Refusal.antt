-- One failed request of a stream.
use Rattle.std.specs.Prelude.{◌≡◌, ℕ, ◌+◌, ◌<◌, List, length, Option, Some}
use Rattle.std.specs.declared.io.ErrorKind.{ErrorKind}
use Rattle.std.specs.declared.io.ErrorKind.TheVariants.{UnexpectedEof}
use Rattle.std.specs.declared.io.traits.SeekFrom.{SeekFrom}
use Rattle.bitstream_order.specs.Reference.{Reference, capacity_of}
use Rattle.bitstream_order.specs.Streams.{InputStream, OutputStream}

-- A failed request: the kind of its error, the number of bytes asked for, and what is known of the stream. That is its
-- capacity, and its bytes before and after the request (the bytes left to read, or the bytes that it holds).
pub record Refusal : Type 0 where
  pub kind : ErrorKind
  pub wanted : ℕ
  pub capacity : Option ℕ
  pub before : Option (List ℕ)
  pub after : Option (List ℕ)

-- the record of a failed request, from the state of the stream before it and after it
abbrev pub refusal_told : {S : Type 0} → (S → Option (List ℕ)) → (S → List Reference) → S → ℕ → ErrorKind → S → Refusal
refusal_told known references old wanted kind new = record {
  kind = kind;
  wanted = wanted;
  capacity = capacity_of (references old);
  before = known old;
  after = known new;
}

-- the record of a failed request for a number of bytes, from what is known of its source
abbrev pub refused_read : {R : Type 0} → InputStream R → R → ℕ → ErrorKind → R → Refusal
refused_read I = refusal_told I.remaining I.references

-- the record of a failed request to send a number of bytes, from what is known of its target
abbrev pub refused_write : {W : Type 0} → OutputStream W → W → ℕ → ErrorKind → W → Refusal
refused_write O = refusal_told O.contents O.references

-- a failure at the end of the input: fewer bytes were left than were asked for
pub record IsTrueEnd (refusal : Refusal) : Type 0 where
  pub left : List ℕ
  pub kind : refusal.kind ≡ UnexpectedEof
  pub told : refusal.before ≡ Some left
  pub few : length left < refusal.wanted

-- a failure for lack of room: fewer bytes were free than were to be sent
pub record LacksRoom (refusal : Refusal) : Type 0 where
  pub held : List ℕ
  pub most : ℕ
  pub told : refusal.before ≡ Some held
  pub room : refusal.capacity ≡ Some most
  pub few : most < length held + refusal.wanted

-- a failed request that a stream allows, from what is known of its bytes and of its requests
pub record MayRefuse {S : Type 0} (known : S → Option (List ℕ)) (references : S → List Reference)
    (refuses : S → ℕ → ErrorKind → S → Type 0) (refusal : Refusal) : Type 0 where
  pub old : S
  pub new : S
  pub capacity : refusal.capacity ≡ capacity_of (references old)
  pub before : refusal.before ≡ known old
  pub after : refusal.after ≡ known new
  pub refused : refuses old refusal.wanted refusal.kind new

-- a failed request for bytes that a source allows
abbrev pub MayRefuseRead : {R : Type 0} → InputStream R → Refusal → Type 0
MayRefuseRead I = MayRefuse I.remaining I.references I.refuses

-- a failed request to send bytes, or a failed flush, that a target allows
abbrev pub MayRefuseWrite : {W : Type 0} → OutputStream W → Refusal → Type 0
MayRefuseWrite O = MayRefuse O.contents O.references O.refuses

-- a failed seek to this position that a source allows
abbrev pub MayRefuseSeek : {R : Type 0} → InputStream R → (R → SeekFrom → ErrorKind → R → Type 0) → SeekFrom → Refusal
    → Type 0
MayRefuseSeek I refuses_seek to =
    MayRefuse I.remaining I.references (λ before _ kind after. refuses_seek before to kind after)

-- all these failed requests failed at the end of the input
abbrev pub TrueEnds : (Refusal → Type 0) → Type 0
TrueEnds may = (refusal : Refusal) → may refusal → IsTrueEnd refusal

-- all these failed requests failed for lack of room
abbrev pub AllLackRoom : (Refusal → Type 0) → Type 0
AllLackRoom may = (refusal : Refusal) → may refusal → LacksRoom refusal

-- a source whose requests fail only if fewer bytes are left than were asked for, with the kind `UnexpectedEof`
abbrev pub RefusesAtEnd : {S : Type 0} → (S → Option (List ℕ)) → (S → ℕ → ErrorKind → S → Type 0) → Type 0
RefusesAtEnd {S} remaining refuses = (before after : S) (wanted : ℕ) (kind : ErrorKind)
    → refuses before wanted kind after
    → (xs : List ℕ) × (remaining before ≡ Some xs) × (kind ≡ UnexpectedEof) × (length xs < wanted)
