-- The contents of a parameter set.
use Rattle.std.specs.Prelude.{ℕ, List}
use Rattle.bitstream_callers.specs.declared.parameter_set.OperatingPoint.{OperatingPoint}

-- a profile, and points in order
pub record Parameters : Type 0 where
  pub profile : ℕ
  pub points : List OperatingPoint
