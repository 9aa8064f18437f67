-- Worked rows.
use Rattle.std.specs.Prelude.{◌≡◌, ℕ, List, [], ◌∷◌, map, refl}
use Rattle.bitstream_io.specs.Word.{High, Low, digits, digits_number, bits}
use Rattle.bitstream_io.specs.Codec.{and_then}
use Rattle.bitstream_io.specs.ReadTable.{unsigned_decoder, align_decoder}
use Rattle.bitstream_io.specs.WriteTable.{unsigned}
use Rattle.bitfields_core.specs.declared.fault.Reason.TheVariants.{BitsEnded, ConstantDiffers}
use Rattle.bitfields_core.specs.declared.field.Field.{Field}
use Rattle.bitfields_core.specs.declared.field.Field.TheVariants.{Unsigned, Constant, Align}
use Rattle.bitfields_core.specs.declared.field_value.FieldValue.{FieldValue}
use Rattle.bitfields_core.specs.declared.field_value.FieldValue.TheVariants as Value
use Rattle.bitfields_core.specs.Fault.{fault}
use Rattle.bitfields_core.specs.Packing.{packed_bits}
use Rattle.bitfields_core.specs.Unpacking.{unpack_bits, Unpacks, Stops}

abbrev five : List Field
five = Unsigned 2 ∷ Unsigned 3 ∷ Unsigned 5 ∷ Unsigned 3 ∷ Unsigned 19 ∷ []

abbrev four_bytes : List ℕ
four_bytes = 177 ∷ 237 ∷ 59 ∷ 193 ∷ []

-- values of fields `uN`
abbrev numbers : List ℕ → List FieldValue
numbers vs = map Value.Unsigned vs

packs_high : packed_bits High five (numbers (2 ∷ 6 ∷ 7 ∷ 5 ∷ 342977 ∷ [])) 0 ≡ bits High four_bytes
unfolding unsigned digits
packs_high = refl

packs_low : packed_bits Low five (numbers (1 ∷ 4 ∷ 13 ∷ 3 ∷ 395743 ∷ [])) 0 ≡ bits Low four_bytes
unfolding unsigned digits
packs_low = refl

aligns_high : packed_bits High (Unsigned 4 ∷ Align ∷ Unsigned 8 ∷ []) (numbers (15 ∷ 1 ∷ [])) 0 ≡ bits High (240 ∷ 1 ∷ [])
unfolding unsigned digits
aligns_high = refl

aligns_low : packed_bits Low (Unsigned 4 ∷ Align ∷ Unsigned 8 ∷ []) (numbers (15 ∷ 1 ∷ [])) 0 ≡ bits Low (15 ∷ 1 ∷ [])
unfolding unsigned digits
aligns_low = refl

unpacks_high : unpack_bits High 1 five 0 (bits High four_bytes) ≡ Unpacks (numbers (2 ∷ 6 ∷ 7 ∷ 5 ∷ 342977 ∷ [])) 32
unfolding and_then unsigned_decoder digits digits_number
unpacks_high = refl

unpacks_low : unpack_bits Low 1 five 0 (bits Low four_bytes) ≡ Unpacks (numbers (1 ∷ 4 ∷ 13 ∷ 3 ∷ 395743 ∷ [])) 32
unfolding and_then unsigned_decoder digits digits_number
unpacks_low = refl

ends : unpack_bits High 1 (Unsigned 9 ∷ []) 0 (bits High (177 ∷ [])) ≡ Stops (fault 1 BitsEnded)
unfolding and_then unsigned_decoder digits
ends = refl

aligns_at_once : unpack_bits Low 1 (Align ∷ []) 0 [] ≡ Unpacks [] 0
unfolding and_then align_decoder
aligns_at_once = refl

constant_packs : packed_bits High (Constant 8 177 ∷ []) [] 0 ≡ bits High (177 ∷ [])
unfolding unsigned digits
constant_packs = refl

constant_holds : unpack_bits High 1 (Unsigned 2 ∷ Constant 3 6 ∷ []) 0 (bits High (177 ∷ []))
    ≡ Unpacks (numbers (2 ∷ [])) 5
unfolding and_then unsigned_decoder digits digits_number
constant_holds = refl

constant_differs : unpack_bits High 1 (Unsigned 2 ∷ Constant 3 5 ∷ []) 0 (bits High (177 ∷ []))
    ≡ Stops (fault 2 ConstantDiffers)
unfolding and_then unsigned_decoder digits digits_number
constant_differs = refl
