-- The errors whose cause is outside the bytes.
use Rattle.std.specs.Prelude.{◌≡◌, ◌⊎◌, ⊤, Result, Ok, Err}
use Rattle.bitstream_io.specs.Callers.{Error, OutOfMemory, Stream}
use Rattle.flac_codec.specs.declared.error.FlacError.{FlacError}
use Rattle.flac_codec.specs.declared.error.FlacError.TheVariants.{Reader}

-- an allocation failed, or the reader
abbrev pub IsOutside : Error → Type 0
IsOutside OutOfMemory = ⊤
IsOutside (Stream kind) = ⊤
IsOutside error = ⊥

-- such an error, as one of the codec
abbrev pub IsOutsideFlac : FlacError → Type 0
IsOutsideFlac (Reader error) = IsOutside error
IsOutsideFlac error = ⊥

-- a result that an allocation or the reader caused by its failure
abbrev pub IsFailure : {A : Type 0} → Result A FlacError → Type 0
IsFailure (Err error) = IsOutsideFlac error
IsFailure (Ok value) = ⊥

-- the result is that of a definition, or an allocation failed, or the reader
abbrev pub IsUnlessFailure : {A : Type 0} → Result A FlacError → Result A FlacError → Type 0
IsUnlessFailure meant result = (result ≡ meant) ⊎ IsFailure result
