-- The numbers that a count of n bits holds in a type of `size` bits, and the errors for all others.
use Rattle.std.specs.Prelude.{ℕ, ℤ, pos, negsuc, ◌-◌, ◌^◌, ◌<◌, ◌≤◌}
use Rattle.bitstream_number.specs.Word.{FitsSignedBits}
use Rattle.bitstream_count.specs.declared.checked_error.CheckedError.{CheckedError}
use Rattle.bitstream_count.specs.declared.checked_error.CheckedError.TheVariants.{ExcessiveBits, ExcessiveValue}

-- n is at most the type's size, and v is a number of n bits
abbrev pub HoldsUnsigned : ℕ → ℕ → ℕ → Type 0
HoldsUnsigned size n v = (n ≤ size) × (v < 2 ^ n)

-- n is at most the signed type's size, and x fits in n bits
abbrev pub HoldsSigned : ℕ → ℕ → ℤ → Type 0
HoldsSigned size n x = (n ≤ size) × FitsSignedBits n x

-- n is at most the type's size, and v is accepted in n bits: at 0 bits any number is, and 0 is kept
abbrev pub AcceptsUnsigned : ℕ → ℕ → ℕ → Type 0
AcceptsUnsigned size n v = (n ≤ size) × (0 < n → v < 2 ^ n)

-- the error for a number that is not accepted in n bits
abbrev pub RefusesUnsigned : ℕ → ℕ → ℕ → CheckedError → Type 0
RefusesUnsigned size n v ExcessiveBits = size < n
RefusesUnsigned size n v ExcessiveValue = (n ≤ size) × (0 < n) × (2 ^ n ≤ v)

-- x lies below - 2 ^ (n - 1), or above 2 ^ (n - 1) - 1
abbrev pub ExceedsSignedBits : ℕ → ℤ → Type 0
ExceedsSignedBits n (pos k) = 2 ^ (n - 1) ≤ k
ExceedsSignedBits n (negsuc k) = 2 ^ (n - 1) ≤ k

-- the error for a signed number that does not fit in n bits
abbrev pub RefusesSigned : ℕ → ℕ → ℤ → CheckedError → Type 0
RefusesSigned size n x ExcessiveBits = size < n
RefusesSigned size n x ExcessiveValue = (n ≤ size) × ExceedsSignedBits n x
