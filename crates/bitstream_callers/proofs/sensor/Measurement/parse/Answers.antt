use Rattle.bitstream_io.proofs.CallerLemmas.{◌∙◌, High, ap, prefix_answered, refl, slice_ends}
use Rattle.bitstream_io.proofs.SliceLemmas.{new_answer}
use Rattle.bitstream_callers.specs.Sensor.{measurement_decoder}
use Rattle.bitstream_callers.proofs.sensor.Measurement.parse.Goals as goal

pub returns-clause-answer : goal.returns-clause-answer
returns-clause-answer c = new_answer slice_ends _ _ c.over.ensures.state c.read.ensures

pub returns-clause-back : goal.returns-clause-back
returns-clause-back c = λ measurement more fits is.
    prefix_answered slice_ends c.over.ensures.state refl c.read.ensures
    (ap ((measurement_decoder High).reads 0) is ∙ c.measurements_round_trip.ensures High measurement 0 0 more fits)
