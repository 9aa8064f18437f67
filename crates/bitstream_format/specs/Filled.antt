-- Lists that fill a stated size, as `./format` prints them: the bytes of the size are read first, and then the items over these
-- bytes alone, up to their end.
use Rattle.std.specs.Prelude.{ℕ, zero, suc, ◌+◌, List, Bool, true, [], ◌∷◌, drop, Result, Ok, Err}
use Rattle.bitstream_count.specs.declared.error.Error.{Error}
use Rattle.bitstream_count.specs.Codec.{Prefix, Incomplete}
use Rattle.bitstream_io.specs.Callers.{Decoder, Done, Order}
use Rattle.bitstream_format.specs.Sizes.{item_and, limited}

-- an item, and the others after its bits
abbrev pub next_item : {A E : Type 0} → E → (Error → E) → (E → E) → Prefix (Result A E) → (ℕ → Result (List A) E)
    → Result (List A) E
next_item err own ended Incomplete rest = Err err
next_item err own ended (Done n (Ok (Ok x))) rest = item_and x (rest n)
next_item err own ended (Done n (Ok (Err y))) rest = Err (ended y)
next_item err own ended (Done n (Err y)) rest = Err (ended (own y))

-- items up to the end of the bits, at most `most`; `err` if an item needs more bits, or if there are more items
abbrev pub items_from : {A E : Type 0} → Decoder (Result A E) → E → (Error → E) → (E → E) → ℕ → List Bool → ℕ
    → Result (List A) E
items_from decoder err own ended p [] most = Ok []
items_from decoder err own ended p (b ∷ bs) zero = Err err
items_from decoder err own ended p (b ∷ bs) (suc most) =
    next_item err own ended (decoder.reads p (b ∷ bs))
    (λ n. items_from decoder err own ended (p + n) (drop n (b ∷ bs)) most)

-- the reads of items that fill n bytes, each of at least one byte: these bytes, and then the items over their bits alone
abbrev pub filled_decoder : {A E : Type 0} → (Order → Decoder (Result A E)) → E → (Error → E) → (E → E) → Order → ℕ
    → Decoder (Result (List A) E)
filled_decoder decoder err own ended o n = limited true n (λ w. items_from (decoder o) err own ended 0 w n) o
