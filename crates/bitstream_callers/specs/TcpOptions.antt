-- An option of a TCP header: its kind, and mostly its length and its data.
use Rattle.std.specs.Prelude.{ℕ, ◌-◌, ◌==◌, nat_le, Bool, true, false, if◌then◌else◌}
use Rattle.bitstream_io.specs.Callers.{Decoder, High, pure, unsigned_decoder, whole_bytes_decoder, ◌>>=◌}

-- n bytes of data
abbrev pub data_decoder : ℕ → Decoder Bool
data_decoder count = do
  done ← whole_bytes_decoder count
  pure true

-- the length, which counts the two bytes before the data
abbrev pub long_decoder : Decoder Bool
long_decoder = do
  length ← unsigned_decoder High 8 8
  if nat_le length 1 then pure false else data_decoder (length - 2)

-- true if another option may follow: after the kind 0 none does, and the kind 1 is an option by itself
abbrev pub option_decoder : Decoder Bool
option_decoder = do
  kind ← unsigned_decoder High 8 8
  if nat_le kind 1 then pure (kind == 1) else long_decoder
