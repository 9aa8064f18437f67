-- Made by `./format --c`, which prints the same for each crate: edit tools/describing/c/shared.py.
-- A checksum that is tested behind the reads.
use Rattle.std.specs.Prelude.{Result, Ok, Err}
use Rattle.bitstream_io.specs.Codec.{Prefix, Incomplete, Done}

-- a result, and then a test of its value; an error is kept
abbrev pub and_tested : {A B E : Type 0} → (A → Result B E) → Result A E → Result B E
and_tested test (Ok a) = test a
and_tested test (Err e) = Err e

-- what reads say of bits, and then a test of what they found
abbrev pub tested : {A B E : Type 0} → (A → Result B E) → Prefix (Result A E) → Prefix (Result B E)
tested test Incomplete = Incomplete
tested test (Done n (Ok r)) = Done n (Ok (and_tested test r))
tested test (Done n (Err e)) = Done n (Err e)
