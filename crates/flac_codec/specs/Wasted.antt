-- Samples with wasted bits.
use Rattle.std.specs.Prelude.{◌≡◌, ℕ, ◌-◌, ℤ}
use Rattle.std.specs.Int.{int_shr}
use Rattle.bitstream_io.specs.Callers.{FitsSignedBits}
use Rattle.flac_codec.specs.Subframe.{widened}

-- a sample whose `wasted` low bits are 0, and whose others have as many bits less than `width`
pub record IsNarrow (width wasted : ℕ) (sample : ℤ) : Type 0 where
  pub zeros : widened wasted (int_shr sample wasted) ≡ sample
  pub fits : FitsSignedBits (width - wasted) (int_shr sample wasted)
