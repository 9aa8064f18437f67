-- The bytes of which STREAMINFO has the MD5 (RFC 9639, section 8.2).
use Rattle.std.specs.Prelude.{ℕ, zero, suc, ◌+◌, ◌/◌, List, [], ◌++◌, get_or, min, take, ℤ, pos}
use Rattle.std.specs.Int.{cast_unsigned, to_le_bytes, w64}
use Rattle.std.specs.List.{flat_map}
use Rattle.flac_codec.specs.File.{sample_count}

-- the number of bytes of a sample of `size` bits, at most 8
abbrev pub byte_count : ℕ → ℕ
byte_count size = min ((size + 7) / 8) 8

-- a sample of `size` bits in whole bytes: its two's complement, the lowest byte first
abbrev pub one_sample : ℕ → ℤ → List ℕ
one_sample size sample = take (byte_count size) (to_le_bytes w64 (cast_unsigned w64 sample))

-- the samples of all channels at a place
abbrev pub samples_at : ℕ → List (List ℤ) → ℕ → List ℕ
samples_at size channels place = flat_map (λ channel. one_sample size (get_or channel place (pos 0))) channels

-- the samples at the first n places
unfoldable pub first_samples : ℕ → List (List ℤ) → ℕ → List ℕ
first_samples size channels zero = []
first_samples size channels (suc n) = first_samples size channels n ++ samples_at size channels n

-- all samples
abbrev pub sample_bytes : ℕ → List (List ℤ) → List ℕ
sample_bytes size channels = first_samples size channels (sample_count channels)
