-- Made by `./format` from formats/event.fields: edit that file and make this one anew.
-- Worked rows of an `Event`.
use Rattle.bitstream_messages.specs.Event.{event_decoder, event_writes}
use Rattle.bitstream_io.specs.Codec.{and_then}
use Rattle.bitstream_io.specs.Word.{digits, digits_number}
use Rattle.bitstream_io.specs.WriteTable.{unsigned}
use Rattle.bitstream_io.specs.ReadTable.{unsigned_decoder, const_decoder, skip_decoder}
use Rattle.bitstream_messages.specs.declared.event.Event.{Event}
use Rattle.bitstream_messages.specs.declared.event.EventError.TheVariants.{NoKind}
use Rattle.bitstream_messages.specs.declared.event.Kind.TheVariants.{Marked, Plain}
use Rattle.bitstream_messages.specs.declared.event.What.TheVariants.{Marked as WhatMarked, Plain as WhatPlain}
use Rattle.std.proofs.Common.{◌≡◌, ◌++◌, ◌∷◌, [], ℕ, List, Ok, Err, length, refl}
use Rattle.bitstream_io.specs.Callers.{Done, High, bits, align, write_sequence, sure_answer}

row_0 : List ℕ
row_0 = 0 ∷ 7 ∷ 9 ∷ []

value_0 : Event
value_0 = record {
  kind = Marked;
  what = WhatMarked (record { color = 9 });
}

written_0 : (write_sequence (event_writes High value_0 ++ align ∷ []) 0 ≡ bits High row_0)
    × ((event_decoder High).reads 0 (bits High row_0)
    ≡ Done (length (write_sequence (event_writes High value_0) 0)) (Ok (Ok value_0)))
unfolding row_0 value_0 and_then digits digits_number unsigned unsigned_decoder const_decoder skip_decoder
written_0 = (refl, refl)

row_1 : List ℕ
row_1 = 2 ∷ []

value_1 : Event
value_1 = record {
  kind = Plain;
  what = WhatPlain;
}

written_1 : (write_sequence (event_writes High value_1 ++ align ∷ []) 0 ≡ bits High row_1)
    × ((event_decoder High).reads 0 (bits High row_1)
    ≡ Done (length (write_sequence (event_writes High value_1) 0)) (Ok (Ok value_1)))
unfolding row_1 value_1 and_then digits digits_number unsigned unsigned_decoder const_decoder skip_decoder
written_1 = (refl, refl)

row_2 : List ℕ
row_2 = 3 ∷ []

refused_2 : sure_answer ((event_decoder High).reads 0 (bits High row_2)) ≡ Ok (Err NoKind)
unfolding row_2 and_then digits digits_number unsigned unsigned_decoder const_decoder skip_decoder
refused_2 = refl
