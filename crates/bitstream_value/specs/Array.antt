-- Arrays: items one after another.
use Rattle.std.specs.Prelude.{ℕ, zero, suc, Bool, List, [], ◌∷◌, ◌++◌, take, drop}
use Rattle.bitstream_count.specs.Codec.{Decoder, and_then, pure}

-- n items, one after another; for 0 items no call at all
unfoldable pub items_decoder : {A : Type 0} → Decoder A → ℕ → Decoder (List A)
items_decoder decoder zero = pure []
items_decoder decoder (suc n) = and_then (items_decoder decoder n) (λ items. and_then decoder (λ item. pure (items ++ item ∷ [])))

-- k encodings of n bits each, one after another
abbrev pub words : ℕ → ℕ → List Bool → List (List Bool)
words n zero bits = []
words n (suc k) bits = take n bits ∷ words n k (drop n bits)
