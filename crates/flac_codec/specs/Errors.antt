-- The errors of the codec.
use Rattle.std.specs.Prelude.{◌≡◌}
use Rattle.bitstream_io.specs.Callers.{Error}
use Rattle.flac_codec.specs.declared.error.FlacError.{FlacError}
use Rattle.flac_codec.specs.declared.error.FlacError.TheVariants.{Reader}

-- the error map: an error of the reader is kept as one of the format's
abbrev pub becomes_flac : Error → FlacError → Type 0
becomes_flac error own = own ≡ Reader error
