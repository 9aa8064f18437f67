-- Checksums of lines of a format: of the bytes that the bits of the lines are.
use Rattle.std.specs.Prelude.{ℕ, ◌/◌, Bool, false, List, ◌++◌, length, replicate, Result, Ok, Err}
use Rattle.bitstream_number.specs.Word.{Order, bytes_of}
use Rattle.bitstream_count.specs.Codec.{Encoder}
use Rattle.bitstream_count.specs.declared.error.Error.{Error}
use Rattle.bitstream_stream.specs.Alignment.{to_boundary}
use Rattle.bitstream_stream.specs.Sequence.{write_sequence}
use Rattle.bitstream_value.specs.Lengths.{sequence_length}

-- bits, and zeros up to a whole byte
abbrev pub padded_bits : List Bool → List Bool
padded_bits x = x ++ replicate (to_boundary (length x)) false

-- the bytes with these bits, the last one filled up by zeros
unfoldable pub whole_bytes : Order → List Bool → List ℕ
whole_bytes o x = bytes_of o (length (padded_bits x) / 8) (padded_bits x)

-- a number, or 0 after an error
abbrev pub or_none : Result ℕ Error → ℕ → ℕ
or_none (Ok n) sum = sum
or_none (Err error) sum = 0

-- The checksum of lines, by the function `sum` of their bytes: these have the bits that the lines write, from a whole byte
-- on. If a value does not fit its bits, the checksum is 0.
unfoldable pub lines_sum : (List ℕ → ℕ) → Order → List Encoder → ℕ
lines_sum sum o lines = or_none (sequence_length lines 0) (sum (whole_bytes o (write_sequence lines 0)))
