-- Unary numbers.
use Rattle.std.specs.Prelude.{ℕ, suc, ◌+◌, ◌^◌, Bool, not, List, [], ◌∷◌, ◌++◌, length, replicate, Ok, Err, nat_lt, if◌then◌else◌}
use mathlib.Core.Bool.{beq}
use Rattle.bitstream_count.specs.declared.error.Error.TheVariants.{RunTooLong}
use Rattle.bitstream_count.specs.Codec.{Prefix, Incomplete, Done}

-- k bits that are not the stop bit, and then the stop bit
abbrev pub unary : Bool → ℕ → List Bool
unary stop k = replicate k (not stop) ++ stop ∷ []

-- the number of bits before the first stop bit, or of all bits if there is none
abbrev pub lead : Bool → List Bool → ℕ
lead stop [] = 0
lead stop (b ∷ bits) = if beq b stop then 0 else suc (lead stop bits)

-- The prefix of a unary read: the number with whose unary encoding the bits begin. A run of 2^32 bits or more is too
-- long: the read then takes 2^32 bits and fails.
abbrev pub read_unary : Bool → List Bool → Prefix ℕ
read_unary stop bits =
    let k = lead stop bits in
    if nat_lt k (2 ^ 32)
    then (if nat_lt k (length bits) then Done (k + 1) (Ok k) else Incomplete)
    else Done (2 ^ 32) (Err RunTooLong)
