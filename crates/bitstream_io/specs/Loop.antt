-- The invariants of loops that read or write items, and several results as one.
use Rattle.std.specs.Prelude.{ℕ, ◌+◌, List, [], ◌∷◌, take, flat_map, Result, Ok, Err}
use Rattle.bitstream_count.specs.Codec.{Decoder, Encoder}
use Rattle.bitstream_stream.specs.Reading.Reads.{BitSource, Reads}
use Rattle.bitstream_stream.specs.Writing.Sink.{Sink, WritesAll}
use Rattle.bitstream_value.specs.Array.{items_decoder}

-- n items were read, and these are their values
abbrev pub ItemsRead : {R A : Type 0} → BitSource R → Decoder A → ℕ → R → List A → R → Type 0
ItemsRead K decoder n old items new = Reads K (items_decoder decoder n) old (Ok items) new

-- of these items the first n were written, each by its calls
abbrev pub ItemsWritten : {S A : Type 0} → Sink S → (A → List Encoder) → List A → ℕ → S → S → Type 0
ItemsWritten K calls items n old new = WritesAll K (flat_map calls (take n items)) old (Ok tt) new

-- the sum of the bits of parts
abbrev pub parts_size : {A : Type 0} → (A → ℕ) → List A → ℕ
parts_size size [] = 0
parts_size size (part ∷ parts) = size part + parts_size size parts

-- a result, and the combined result of the ones after it
abbrev pub ok_then : {A E : Type 0} → Result A E → Result (List A) E → Result (List A) E
ok_then (Ok item) (Ok items) = Ok (item ∷ items)
ok_then (Ok item) (Err error) = Err error
ok_then (Err error) _ = Err error

-- the items of the results, or the first error among them
abbrev pub all_ok : {A E : Type 0} → List (Result A E) → Result (List A) E
all_ok [] = Ok []
all_ok (answer ∷ answers) = ok_then answer (all_ok answers)
