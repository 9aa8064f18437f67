-- What a vehicle's telemetry measured at one time.
use Rattle.std.proofs.Common.{refl}
use Rattle.std.specs.Prelude.{◌<◌, ◌^◌}
use Rattle.bitstream_io.specs.Callers.{FitsSignedBits}
use Rattle.bitstream_format.specs.Format.{Plain, named}
use Rattle.bitstream_format.specs.Places.{◌>>=◌, Fixed, fixed, place, done}
use Rattle.bitstream_format.specs.Places as atom
use Rattle.bitstream_format.specs.declared.examples.sample.Sample.{Sample}

-- the fields in order, each in its place
abbrev pub sample_places : Fixed 48 Sample
sample_places = fixed (do
  seconds ← place (atom.unsigned 32 20 refl) (λ s. s.seconds)
  running ← place atom.bool (λ s. s.running)
  temperature ← place (atom.signed 16 9 refl refl) (λ s. s.temperature)
  pressure ← place (atom.unsigned 32 18 refl) (λ s. s.pressure)
  done (record { seconds = seconds; running = running; temperature = temperature; pressure = pressure }))
    (λ s. refl {a = s})

-- each field fits its bits
pub record SampleFits (s : Sample) : Type 0 where
  pub seconds : s.seconds < 2 ^ 20
  pub temperature : FitsSignedBits 9 s.temperature
  pub pressure : s.pressure < 2 ^ 18

-- the same, with the facts that must fit by name
abbrev pub sample : Plain Sample
sample = named SampleFits sample_places.format (λ s fits. (fits.seconds, (fits.temperature, fits.pressure)))
