-- Made by `./format` from formats/mac_frame_control.fields: edit that file and make this one anew.
-- Worked rows of a `MacFrameControl`.
use Rattle.protocols.specs.MacFrameControl.{mac_frame_control_decoder, mac_frame_control_writes}
use Rattle.bitstream_io.specs.Codec.{and_then}
use Rattle.bitstream_io.specs.Word.{digits, digits_number}
use Rattle.bitstream_io.specs.WriteTable.{unsigned}
use Rattle.bitstream_io.specs.ReadTable.{unsigned_decoder, skip_decoder}
use Rattle.protocols.specs.declared.mac_frame_control.MacFrameControl.{MacFrameControl}
use Rattle.protocols.specs.declared.mac_frame_control.FrameKind.TheVariants.{Beacon, Data}
use Rattle.protocols.specs.declared.mac_frame_control.AddressMode.TheVariants.{Absent, Short}
use Rattle.std.proofs.Common.{◌≡◌, ◌++◌, ◌∷◌, [], ℕ, true, false, List, Ok, length, refl}
use Rattle.bitstream_io.specs.Callers.{Done, Low, bits, align, write_sequence}

row_0 : List ℕ
row_0 = 97 ∷ 136 ∷ []

value_0 : MacFrameControl
value_0 = record {
  kind = Data;
  secured = false;
  pending = false;
  wants_ack = true;
  compressed = true;
  no_sequence = false;
  elements = false;
  target_mode = Short;
  version = 0;
  source_mode = Short;
}

written_0 : (write_sequence (mac_frame_control_writes Low value_0 ++ align ∷ []) 0 ≡ bits Low row_0)
    × ((mac_frame_control_decoder Low).reads 0 (bits Low row_0)
    ≡ Done (length (write_sequence (mac_frame_control_writes Low value_0) 0)) (Ok value_0))
unfolding row_0 value_0 and_then digits digits_number unsigned unsigned_decoder skip_decoder
written_0 = (refl, refl)

row_1 : List ℕ
row_1 = 0 ∷ 128 ∷ []

value_1 : MacFrameControl
value_1 = record {
  kind = Beacon;
  secured = false;
  pending = false;
  wants_ack = false;
  compressed = false;
  no_sequence = false;
  elements = false;
  target_mode = Absent;
  version = 0;
  source_mode = Short;
}

written_1 : (write_sequence (mac_frame_control_writes Low value_1 ++ align ∷ []) 0 ≡ bits Low row_1)
    × ((mac_frame_control_decoder Low).reads 0 (bits Low row_1)
    ≡ Done (length (write_sequence (mac_frame_control_writes Low value_1) 0)) (Ok value_1))
unfolding row_1 value_1 and_then digits digits_number unsigned unsigned_decoder skip_decoder
written_1 = (refl, refl)
