-- A measurement of a wheel's sensor.
use Rattle.std.specs.Prelude.{◌^◌, ◌<◌, ◌++◌, Bool, true, false, List, [], ◌∷◌}
use Rattle.bitstream_io.specs.Callers.{Decoder, Encoder, pure, signed_vbr_decoder, unary_decoder, vbr_decoder, ◌>>=◌, Tree, bit_by_bit, path_decoder, Order, FitsSignedBits, signed_vbr, unary_word, vbr, leaf, node}
use Rattle.bitstream_callers.specs.declared.sensor.Measurement.{Measurement}
use Rattle.bitstream_callers.specs.declared.sensor.State.{State}
use Rattle.bitstream_callers.specs.declared.sensor.State.TheVariants.{Idle, Forward, Backward, Braking}

-- the code of the states, as a tree
abbrev pub state_tree : Tree State
state_tree = node (leaf Idle) (node (leaf Forward) (node (leaf Backward) (leaf Braking)))

-- the words of the states: the paths of that tree
abbrev pub state_word : State → List Bool
state_word Idle = false ∷ []
state_word Forward = true ∷ false ∷ []
state_word Backward = true ∷ true ∷ false ∷ []
state_word Braking = true ∷ true ∷ true ∷ []

-- the reads of a measurement, in order
abbrev pub measurement_decoder : Order → Decoder Measurement
measurement_decoder o = do
  missed ← unary_decoder false
  distance ← vbr_decoder o 4 32 (2 ^ 32)
  turn ← signed_vbr_decoder o 5 16
  state ← path_decoder state_tree
  pure (record { missed = missed; distance = distance; turn = turn; state = state })

-- the writes of a measurement, in order
abbrev pub measurement_writes : Order → Measurement → List Encoder
measurement_writes o measurement =
    (unary_word false measurement.missed ∷ vbr o 4 measurement.distance ∷ signed_vbr o 5 measurement.turn ∷ [])
    ++ bit_by_bit (state_word measurement.state)

-- each number is one of its type
pub record Fits (measurement : Measurement) : Type 0 where
  pub missed : measurement.missed < 2 ^ 32
  pub distance : measurement.distance < 2 ^ 32
  pub turn : FitsSignedBits 16 measurement.turn
