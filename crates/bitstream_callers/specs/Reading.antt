-- A sensor's reading, in a width from the context.
use Rattle.std.specs.Prelude.{◌≡◌, ℕ, true, if◌then◌else◌, List, [], ◌∷◌, Result, Ok, Err}
use Rattle.bitstream_io.specs.Callers.{Decoder, Encoder, pure, Error, bit_decoder, unsigned_decoder, ◌>>=◌, Order, bit, unsigned}
use Rattle.bitstream_callers.specs.declared.reading.Reading.{Reading}
use Rattle.bitstream_callers.specs.declared.reading.ReadingError.{ReadingError}
use Rattle.bitstream_callers.specs.declared.reading.ReadingError.TheVariants.{Reader, Missing}

-- an error of the reader is one of the type's
abbrev pub becomes_reader : Error → ReadingError → Type 0
becomes_reader error own = own ≡ Reader error

-- the value, in the number of bits of the context
abbrev pub value_reads : Order → ℕ → Decoder (Result Reading ReadingError)
value_reads o bits = do
  value ← unsigned_decoder o 32 bits
  pure (Ok (record { value = value }))

-- a bit, and the value if it is 1
abbrev pub reading_reads : Order → ℕ → Decoder (Result Reading ReadingError)
reading_reads o bits = do
  there ← bit_decoder
  if there then value_reads o bits else pure (Err Missing)

-- the writes of a reading, in order
abbrev pub reading_writes : Order → Reading → ℕ → List Encoder
reading_writes o reading bits = bit true ∷ unsigned o 32 bits reading.value ∷ []
