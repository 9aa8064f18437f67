-- The measurement of an accelerometer.
use Rattle.bitstream_io.specs.Callers.{Decoder, High, pure, unsigned_decoder, ◌>>=◌}
use Rattle.bitstream_callers.specs.declared.axes.Axes.{Axes}

-- three numbers of 12 bits
abbrev pub axes_decoder : Decoder Axes
axes_decoder = do
  x ← unsigned_decoder High 16 12
  y ← unsigned_decoder High 16 12
  z ← unsigned_decoder High 16 12
  pure (record { x = x; y = y; z = z })
