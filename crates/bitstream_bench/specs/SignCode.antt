-- A code of a user's own: signs of numbers.
use Rattle.std.specs.Prelude.{Bool, true, false, List, [], ◌∷◌, Option, Some, None, if◌then◌else◌}
use Rattle.bitstream_io.specs.Codec.{Decoder, and_then, pure}
use Rattle.bitstream_io.specs.ReadTable.{bit_decoder}

-- one bit that says whether there is a sign, and then the sign
abbrev pub sign_decoder : Decoder (Option Bool)
sign_decoder = and_then bit_decoder (λ signed. if signed then and_then bit_decoder (λ negative. pure (Some negative)) else pure
    None)

-- the word of no sign, or of a sign
abbrev pub sign_word : Option Bool → List Bool
sign_word None = false ∷ []
sign_word (Some negative) = true ∷ negative ∷ []
