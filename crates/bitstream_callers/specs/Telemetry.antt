-- Heartbeats, and samples of a vehicle's telemetry in vectors: plain, or in frames that begin with their length.
use Rattle.std.specs.Prelude.{◌≡◌, ◌⊎◌, ℕ, Bool, List, [], ◌∷◌, ◌++◌, length, Err}
use Rattle.bitstream_io.specs.Callers.{Error, OutOfMemory, Encoder, write_sequence, sequence_length, High, align, bit, unsigned}
use Rattle.bitstream_callers.specs.Sample.{sample_writes}
use Rattle.bitstream_callers.specs.declared.sample.Sample.{Sample}

-- the writes of a heartbeat
abbrev pub heartbeat_writes : ℕ → Bool → List Encoder
heartbeat_writes number well = unsigned High 8 7 number ∷ bit well ∷ []

-- the number of bits that a sample takes, as one byte, the words of the sample, and zeros up to a whole byte
abbrev pub framed_bits : Sample → List Bool
framed_bits sample =
    let size = length (write_sequence (sample_writes High sample) 0) in
    write_sequence ((unsigned High 8 8 size ∷ sample_writes High sample) ++ align ∷ []) 0

-- an error of calls that write to a vector: the first error that a call has, or that memory was refused
abbrev pub IsMisfitOrMemory : List Encoder → Error → Type 0
IsMisfitOrMemory encoders error = (sequence_length encoders 0 ≡ Err error) ⊎ (error ≡ OutOfMemory)
