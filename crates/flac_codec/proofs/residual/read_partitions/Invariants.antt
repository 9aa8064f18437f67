use Rattle.std.proofs.Common.{◌≡◌, ◌++◌, ℤ, List}
use Rattle.std.specs.List.{flat_map}
use Rattle.bitstream_io.specs.Callers.{PartsRead}
use Rattle.flac_codec.specs.Errors.{becomes_flac}
use Rattle.flac_codec.specs.Residual.{partition_decoder}
use Rattle.flac_codec.proofs.residual.read_partitions.Given as goal

-- the partitions so far were read, and their numbers follow those of the first one
abbrev pub invariant-loop : goal.invariant-loop
invariant-loop g l =
    let K = g.R.BitRead.source in
    (parts : List (List ℤ))
    × PartsRead K becomes_flac (partition_decoder K.order l.bits l.length) l.counter l.initial.reader parts l.reader
    × (l.numbers.items ≡ l.initial.numbers.items ++ flat_map (λ part. part) parts)
