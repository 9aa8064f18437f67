-- Made by `./format --c`, which prints the same for each crate: edit tools/describing/c/shared.py.
-- What a parse of a number of bytes that varies says.
use Rattle.std.specs.Prelude.{◌≡◌, ◌+◌, ◌/◌, ℕ, ℤ, pos, Result, Err}
use Rattle.bitstream_io.specs.Callers.{Error, EndOfInput}
use Rattle.bitstream_io.specs.Codec.{Prefix, Incomplete, Done}

-- What the decoder says of all bits decides the result of a read: too few, or its result after the first n. Then the
-- read took the bytes that have these bits.
abbrev pub IsDecided : {A : Type 0} → Prefix A → ℕ → Result A Error → Type 0
IsDecided Incomplete taken r = r ≡ Err EndOfInput
IsDecided (Done n answer) taken r = (r ≡ answer) × (taken ≡ (n + 7) / 8)

-- the status of an error of the reader
abbrev pub reader_status : Error → ℤ
reader_status EndOfInput = pos 1
reader_status e = pos 5
