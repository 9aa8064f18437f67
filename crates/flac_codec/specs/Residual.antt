-- Residuals of FLAC (RFC 9639, section 9.2.7).
use Rattle.std.specs.Prelude.{ℕ, ℤ, pos, ◌-◌, ◌/◌, ◌%◌, ◌^◌, ◌==◌, nat_lt, if◌then◌else◌, List, ◌++◌, replicate, Result, Ok, Err}
use Rattle.std.specs.List.{flat_map}
use Rattle.bitstream_io.specs.Callers.{Decoder, ◌>>=◌, pure, stores, list_item, unsigned_decoder, signed_decoder, items_decoder, parts_decoder, part_then, Order}
use Rattle.flac_codec.specs.Rice.{rice_decoder}
use Rattle.flac_codec.specs.declared.error.FlacError.{FlacError}
use Rattle.flac_codec.specs.declared.error.FlacError.TheVariants.{ReservedResidual, Partitions, ShortBlock}

-- samples that are not coded
abbrev pub samples_decoder : Order → ℕ → ℕ → Decoder (List ℤ)
samples_decoder o width count = items_decoder (list_item (signed_decoder o 64 width)) count

-- numbers that are not coded, after their width; the width 0 stands for zeros
abbrev pub escaped_decoder : Order → ℕ → Decoder (Result (List ℤ) FlacError)
escaped_decoder o count = unsigned_decoder o 32 5 >>= (λ width.
    if width == 0 then stores (Ok (replicate count (pos 0)))
    else samples_decoder o width count >>= (λ numbers. pure (Ok numbers)))

-- a partition of `count` numbers: a parameter of `bits` bits, and Rice numbers; the greatest parameter stands for numbers
-- that are not coded
abbrev pub partition_decoder : Order → ℕ → ℕ → Decoder (Result (List ℤ) FlacError)
partition_decoder o bits count = unsigned_decoder o 32 bits >>= (λ parameter.
    if parameter == 2 ^ bits - 1 then escaped_decoder o count
    else items_decoder (list_item (rice_decoder o parameter)) count >>= (λ numbers. pure (Ok numbers)))

-- a first partition of `first` numbers, and then `count` partitions of `length` numbers
abbrev pub partitions_decoder : Order → ℕ → ℕ → ℕ → ℕ → Decoder (Result (List ℤ) FlacError)
partitions_decoder o bits first length count =
    partition_decoder o bits first >>= part_then (λ numbers.
    parts_decoder (partition_decoder o bits length) count >>= part_then (λ parts.
    pure (Ok (numbers ++ flat_map (λ part. part) parts))))

-- a residual after its coding: 2^n partitions of equal length, of which the first lacks the samples before the residual
abbrev pub partitioned_decoder : Order → ℕ → ℕ → ℕ → Decoder (Result (List ℤ) FlacError)
partitioned_decoder o bits block_size order = unsigned_decoder o 32 4 >>= (λ n.
    if block_size % 2 ^ n == 0 then
    (if nat_lt (block_size / 2 ^ n) order then pure (Err ShortBlock)
    else partitions_decoder o bits (block_size / 2 ^ n - order) (block_size / 2 ^ n) (2 ^ n - 1))
    else pure (Err Partitions))

-- the residual of a block after its first `order` samples: parameters of four bits or of five
abbrev pub residual_decoder : Order → ℕ → ℕ → Decoder (Result (List ℤ) FlacError)
residual_decoder o block_size order = unsigned_decoder o 8 2 >>= (λ coding.
    if coding == 0 then partitioned_decoder o 4 block_size order
    else if coding == 1 then partitioned_decoder o 5 block_size order
    else pure (Err ReservedResidual))
