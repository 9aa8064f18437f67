-- `bool`, as one bit.
use Rattle.std.specs.Prelude.{ℕ, ◌==◌, if◌then◌else◌, Bool, Err}
use Rattle.bitstream_count.specs.declared.error.Error.TheVariants.{BoolWidth}
use Rattle.bitstream_count.specs.Codec.{Decoder, Encoder, fail}
use Rattle.bitstream_stream.specs.Reading.ReadTable.{bit_decoder}
use Rattle.bitstream_stream.specs.Writing.WriteTable.{bit}

-- a `bool` that is read in n bits
unfoldable pub truth_decoder : ℕ → Decoder Bool
truth_decoder n = if n == 1 then bit_decoder else fail BoolWidth

-- a `bool` that is written in n bits
unfoldable pub truth : ℕ → Bool → Encoder
truth n b = if n == 1 then bit b else λ _. Err BoolWidth
