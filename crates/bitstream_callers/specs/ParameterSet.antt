-- A parameter set with a counted list of parts.
use Rattle.std.specs.Prelude.{ℕ, Result, Ok}
use Rattle.bitstream_io.specs.Callers.{Decoder, pure, Error, unsigned_decoder, ◌>>=◌, Order}
use Rattle.bitstream_io.specs.Grows.{parts_decoder}
use Rattle.bitstream_io.specs.Own.{part_then}
use Rattle.bitstream_callers.specs.Parameters.{Parameters}
use Rattle.bitstream_callers.specs.declared.parameter_set.OperatingPoint.{OperatingPoint}

-- the reads of a point, in order
abbrev pub point_reads : Order → Decoder (Result OperatingPoint Error)
point_reads o = do
  layers ← unsigned_decoder o 16 12
  level ← unsigned_decoder o 8 5
  pure (Ok (record { layers = layers; level = level }))

-- `count` points, after the profile
abbrev pub points_reads : Order → ℕ → ℕ → Decoder (Result Parameters Error)
points_reads o profile count = parts_decoder (point_reads o) count >>= part_then (λ points.
    pure (Ok (record { profile = profile; points = points })))

-- the profile, the number of the points, and these
abbrev pub set_reads : Order → Decoder (Result Parameters Error)
set_reads o = do
  profile ← unsigned_decoder o 8 3
  count ← unsigned_decoder o 8 5
  points_reads o profile count
