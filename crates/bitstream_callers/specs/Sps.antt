-- The beginning of a sequence parameter set.
use Rattle.std.specs.Prelude.{◌≡◌, ℕ, ◌+◌, ◌==◌, Result, Ok, Err, if◌then◌else◌}
use Rattle.bitstream_io.specs.Callers.{Decoder, pure, Error, bit_decoder, const_decoder, unsigned_decoder, ◌>>=◌, Order}
use Rattle.bitstream_io.specs.Golomb.{ue_decoder}
use Rattle.bitstream_callers.specs.declared.sps.Sps.{Sps}
use Rattle.bitstream_callers.specs.declared.sps.SpsError.{SpsError}
use Rattle.bitstream_callers.specs.declared.sps.SpsError.TheVariants.{Reader, OtherUnit, UnsupportedOrder}

-- an error of the reader is one of the type's
abbrev pub becomes_sps : Error → SpsError → Type 0
becomes_sps error own = own ≡ Reader error

-- the part after the order, with the fields before it
abbrev pub frames_decoder : Order → ℕ → ℕ → ℕ → ℕ → ℕ → Decoder (Result Sps SpsError)
frames_decoder o profile constraints level id frame_number_bits = do
  reference_frames ← ue_decoder o
  gaps ← bit_decoder
  width_less_1 ← ue_decoder o
  height_less_1 ← ue_decoder o
  pure (Ok (record {
    profile = profile;
    constraints = constraints;
    level = level;
    id = id;
    frame_number_bits = frame_number_bits;
    reference_frames = reference_frames;
    gaps = gaps;
    width = width_less_1 + 1;
    height = height_less_1 + 1;
  }))

-- the part after the byte that names the unit
abbrev pub unit_decoder : Order → Decoder (Result Sps SpsError)
unit_decoder o = do
  profile ← unsigned_decoder o 8 8
  constraints ← unsigned_decoder o 8 8
  level ← unsigned_decoder o 8 8
  id ← ue_decoder o
  frame_number_bits ← ue_decoder o
  order ← ue_decoder o
  if order == 2 then frames_decoder o profile constraints level id frame_number_bits else pure (Err UnsupportedOrder)

-- the reads of a set, in order
abbrev pub sps_decoder : Order → Decoder (Result Sps SpsError)
sps_decoder o = do
  named ← const_decoder o 8 0x67
  if named then unit_decoder o else pure (Err OtherUnit)
