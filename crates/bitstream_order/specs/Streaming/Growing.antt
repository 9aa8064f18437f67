-- Writes to a vector of bytes.
use Rattle.std.specs.Prelude.{◌≡◌, ℕ, ◌+◌, ◌<◌, ◌++◌, List, [], length, Option, Some, Result, Ok, Err, vec_capacity, vec_len}
use Rattle.std.specs.declared.alloc.AllocError.{AllocError}
use Rattle.std.specs.declared.io.ErrorKind.{ErrorKind}
use Rattle.std.specs.declared.io.ErrorKind.TheVariants.{OutOfMemory}
use Rattle.std.specs.declared.vec.Vec.{Vec}
use Rattle.bitstream_order.specs.Streams.{OutputStream}
use Rattle.bitstream_order.specs.declared.streams.growing.Growing.{Growing}

-- the bytes that were written
abbrev pub growing_bytes : {A : Type 0} → Growing A → List ℕ
growing_bytes g = g.bytes.items

-- the bytes of a vector, as the known contents of a target
abbrev pub growing_contents : {A : Type 0} → Growing A → Option (List ℕ)
growing_contents g = Some (growing_bytes g)

-- the number of bytes for which the vector has memory
abbrev pub growing_capacity : {A : Type 0} → Growing A → ℕ
growing_capacity g = vec_capacity g.bytes

-- A request to write some bytes fails only if the vector has no memory left for them. The kind is then `OutOfMemory`,
-- and no byte is written.
pub record GrowthRefused {A : Type 0} (before : Growing A) (wanted : ℕ) (kind : ErrorKind) (after : Growing A) :
    Type 0 where
  pub memory : kind ≡ OutOfMemory
  pub some : 0 < wanted
  pub full : growing_capacity before < length (growing_bytes before) + wanted
  pub same : growing_bytes after ≡ growing_bytes before

-- a vector as a target: its bytes are known, and a flush changes nothing
abbrev pub growing_stream : {A : Type 0} → OutputStream (Growing A)
growing_stream = record {
  contents = growing_contents;
  references = λ _. [];
  refuses = GrowthRefused;
  flushes = λ before after. after ≡ before;
}

-- Bytes were appended to a vector, or there is no memory for them and the vector is unchanged.
abbrev pub IsExtended : {A : Type 0} → Vec ℕ A → List ℕ → Result (Unit {0}) AllocError → Vec ℕ A → Type 0
IsExtended old bytes (Ok done) new = new.items ≡ old.items ++ bytes
IsExtended old bytes (Err refused) new = (new.items ≡ old.items) × (vec_capacity old < vec_len old + length bytes)
