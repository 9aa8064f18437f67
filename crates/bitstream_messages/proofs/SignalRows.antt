-- Made by `./format` from formats/signal.fields: edit that file and make this one anew.
-- Worked rows of a `Signal`.
use Rattle.bitstream_messages.specs.Signal.{signal_decoder, signal_writes}
use Rattle.bitstream_io.specs.Codec.{and_then}
use Rattle.bitstream_io.specs.Word.{digits, digits_number}
use Rattle.bitstream_io.specs.WriteTable.{unsigned}
use Rattle.bitstream_io.specs.ReadTable.{unsigned_decoder, skip_decoder}
use Rattle.bitstream_messages.specs.declared.signal.Signal.{Signal}
use Rattle.bitstream_messages.specs.declared.signal.Reply.TheVariants.{Ack as ReplyAck, Stop as ReplyStop, Other as ReplyOther}
use Rattle.bitstream_messages.specs.declared.signal.Tail.TheVariants.{Nothing as TailNothing, Late as TailLate}
use Rattle.std.proofs.Common.{◌≡◌, ◌++◌, ◌∷◌, [], ℕ, true, false, List, Ok, length, refl}
use Rattle.bitstream_io.specs.Callers.{Done, High, bits, align, write_sequence}

row_0 : List ℕ
row_0 = 1 ∷ 9 ∷ 0 ∷ 5 ∷ 128 ∷ []

value_0 : Signal
value_0 = record {
  level = 9;
  body = ReplyAck (record { sequence = 5; urgent = true });
  tail = TailNothing;
}

written_0 : (write_sequence (signal_writes High value_0 ++ align ∷ []) 0 ≡ bits High row_0)
    × ((signal_decoder High).reads 0 (bits High row_0)
    ≡ Done (length (write_sequence (signal_writes High value_0) 0)) (Ok value_0))
unfolding row_0 value_0 and_then digits digits_number unsigned unsigned_decoder skip_decoder
written_0 = (refl, refl)

row_1 : List ℕ
row_1 = 7 ∷ 137 ∷ 0 ∷ 6 ∷ 0 ∷ []

value_1 : Signal
value_1 = record {
  level = 9;
  body = ReplyStop;
  tail = TailLate (record { sequence = 6; urgent = false });
}

written_1 : (write_sequence (signal_writes High value_1 ++ align ∷ []) 0 ≡ bits High row_1)
    × ((signal_decoder High).reads 0 (bits High row_1)
    ≡ Done (length (write_sequence (signal_writes High value_1) 0)) (Ok value_1))
unfolding row_1 value_1 and_then digits digits_number unsigned unsigned_decoder skip_decoder
written_1 = (refl, refl)

row_2 : List ℕ
row_2 = 8 ∷ 9 ∷ []

value_2 : Signal
value_2 = record {
  level = 9;
  body = ReplyOther 8;
  tail = TailNothing;
}

written_2 : (write_sequence (signal_writes High value_2 ++ align ∷ []) 0 ≡ bits High row_2)
    × ((signal_decoder High).reads 0 (bits High row_2)
    ≡ Done (length (write_sequence (signal_writes High value_2) 0)) (Ok value_2))
unfolding row_2 value_2 and_then digits digits_number unsigned unsigned_decoder skip_decoder
written_2 = (refl, refl)
