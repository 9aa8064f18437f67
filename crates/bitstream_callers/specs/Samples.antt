-- Samples of 12 bits.
use Rattle.std.specs.Prelude.{◌≤◌, ℕ, Bool, List, [], ◌∷◌, Ok, map}
use Rattle.std.specs.List.{flat_map}
use Rattle.bitstream_io.specs.Callers.{items_decoder, words, Decoder, Encoder, unsigned_decoder, BitSource, Reads, Order, High, number, unsigned}

-- `count` samples, one after another
abbrev pub samples_decoder : Order → ℕ → Decoder (List ℕ)
samples_decoder o count = items_decoder (unsigned_decoder o 16 12) count

-- the samples in bits
abbrev pub samples_in : ℕ → List Bool → List ℕ
samples_in count bits = map (number High) (words 12 count bits)

-- the write of a sample
abbrev pub sample_writes : Order → ℕ → List Encoder
sample_writes o sample = unsigned o 16 12 sample ∷ []

-- the writes of samples, in order
abbrev pub samples_writes : Order → List ℕ → List Encoder
samples_writes o samples = flat_map (sample_writes o) samples

-- only samples were read, at most `count` of them
pub record ReadSome {R : Type 0} (K : BitSource R) (count : ℕ) (old new : R) : Type 0 where
  pub taken : ℕ
  pub within : taken ≤ count
  pub samples : List ℕ
  pub reads : Reads K (samples_decoder K.order taken) old (Ok samples) new
