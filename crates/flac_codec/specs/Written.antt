-- What a part of an encoder owes that writes several values, or a part of a file.
use Rattle.std.specs.Prelude.{◌≡◌, ◌⊎◌, ◌≤◌, ℕ, ℤ, Bool, List, [], ◌∷◌, ◌++◌, length, MatchResult, Result, Ok, Err}
use Rattle.bitstream_io.specs.Callers.{Decoder, Encoder, Error, OutOfMemory, Sink, WritesAll, AllAccepted}
use Rattle.flac_codec.specs.Encodable.{IsFormat}
use Rattle.flac_codec.specs.File.{block_at, info_at}
use Rattle.flac_codec.specs.Frame.{IsFoundIn}
use Rattle.flac_codec.specs.Subframe.{WritesValue}
use Rattle.flac_codec.specs.declared.stream_info.StreamInfo.{StreamInfo}

-- write calls were made in order, up to the first that failed; none of them has an error of its own
pub record MakesCalls {S : Type 0} (K : Sink S) (old : S) (result : Result (Unit {0}) Error) (new : S) : Type 0 where
  pub calls : List Encoder
  pub written : WritesAll K calls old result new
  pub accepted : (from : ℕ) → AllAccepted calls from

-- the value was written so that the decoder reads it; or the sink refused a call, or memory was refused
abbrev pub WritesPart : {S A E : Type 0} → Sink S → Decoder (Result A E) → A → S → Result (Unit {0}) Error → S → Type 0
WritesPart K decoder value old result new =
    MatchResult result (λ _. WritesValue K decoder value old (Ok tt) new)
    (λ error. MakesCalls K old (Err error) new ⊎ (error ≡ OutOfMemory))

-- the first bytes of a file: the marker, and STREAMINFO, which is the last block of metadata or not
abbrev pub IsMetadata : StreamInfo → Bool → List ℕ → Type 0
IsMetadata info last bytes = (length bytes ≡ 42) × ((more : List ℕ) → info_at (bytes ++ more) ≡ Ok (info, last))

-- bytes of a frame with these channels, in each file whose samples have `sample_size` bits in `count` channels
abbrev pub IsBlock : ℕ → ℕ → List ℕ → List (List ℤ) → Type 0
IsBlock sample_size count bytes channels =
    (1 ≤ length bytes)
    × ((info : StreamInfo) → IsFormat sample_size count info → IsFoundIn (block_at info) bytes channels)

-- the marker of a file, `fLaC`
abbrev pub marker : List ℕ
marker = 0x66 ∷ 0x4c ∷ 0x61 ∷ 0x43 ∷ []
