use Rattle.std.proofs.Common.{refl}
use Rattle.bitstream_io.specs.Tree.{IsPath, bit_by_bit, path_decoder}
use Rattle.bitstream_io.specs.Word.{Order}
use Rattle.bitstream_io.proofs.BackLemmas.{RoundTrip}
use Rattle.bitstream_io.proofs.CallerLemmas.{last-back}
use Rattle.bitstream_io.proofs.CallsBack.{calls_round_trip, path-read}
use Rattle.bitstream_callers.specs.Sensor.{Fits, measurement_decoder, measurement_writes, state_tree, state_word}
use Rattle.bitstream_callers.specs.declared.sensor.Measurement.{Measurement}
use Rattle.bitstream_callers.specs.declared.sensor.State.{State}
use Rattle.bitstream_callers.specs.declared.sensor.State.TheVariants.{Idle, Forward, Backward, Braking}
use Rattle.bitstream_callers.proofs.sensor.measurements_round_trip.Goals as goal

path : (state : State) → IsPath state_tree (state_word state) state
path Idle = refl
path Forward = refl
path Backward = refl
path Braking = refl

goes : (o : Order) (measurement : Measurement) → Fits measurement
    → RoundTrip (measurement_decoder o) (measurement_writes o measurement) measurement
goes o measurement fits =
    let state = last-back (path_decoder state_tree) (λ (s : State). record measurement { state = s })
    (bit_by_bit (state_word measurement.state)) measurement.state
    (path-read state_tree (state_word measurement.state) measurement.state (path measurement.state)) in
    search (calls_round_trip, state, fits) depth 16

pub returns : goal.returns
returns c = λ o measurement at from more fits. (goes o measurement fits).back at from more
