-- Made by `./format` from formats/ethernet_header.fields: edit that file and make this one anew.
-- Worked rows of an `EthernetHeader`.
use Rattle.protocols.specs.EthernetHeader.{ethernet_header_decoder, ethernet_header_writes}
use Rattle.bitstream_io.specs.Codec.{and_then}
use Rattle.bitstream_io.specs.Word.{digits, digits_number, bytes_of}
use Rattle.bitstream_io.specs.WriteTable.{unsigned}
use Rattle.bitstream_io.specs.ReadTable.{unsigned_decoder, bytes_decoder}
use Rattle.protocols.specs.declared.ethernet_header.EthernetHeader.{EthernetHeader}
use Rattle.protocols.specs.declared.ethernet_header.EtherType.TheVariants.{Arp, Vlan, Other}
use Rattle.std.proofs.Common.{◌≡◌, ◌++◌, ◌∷◌, [], ℕ, false, List, Ok, Some, None, length, refl}
use Rattle.bitstream_io.specs.Callers.{Done, High, bits, align, write_sequence}

row_0 : List ℕ
row_0 = 255 ∷ 255 ∷ 255 ∷ 255 ∷ 255 ∷ 255 ∷ 2 ∷ 0 ∷ 0 ∷ 0 ∷ 0 ∷ 10 ∷ 8 ∷ 6 ∷ []

value_0 : EthernetHeader
value_0 = record {
  target = 255 ∷ 255 ∷ 255 ∷ 255 ∷ 255 ∷ 255 ∷ [];
  source = 2 ∷ 0 ∷ 0 ∷ 0 ∷ 0 ∷ 10 ∷ [];
  kind = Arp;
  tag = None;
}

written_0 : (write_sequence (ethernet_header_writes High value_0 ++ align ∷ []) 0 ≡ bits High row_0)
    × ((ethernet_header_decoder High).reads 0 (bits High row_0)
    ≡ Done (length (write_sequence (ethernet_header_writes High value_0) 0)) (Ok value_0))
unfolding row_0 value_0 and_then digits digits_number bytes_of unsigned unsigned_decoder bytes_decoder
written_0 = (refl, refl)

row_1 : List ℕ
row_1 = 2 ∷ 0 ∷ 0 ∷ 0 ∷ 0 ∷ 11 ∷ 2 ∷ 0 ∷ 0 ∷ 0 ∷ 0 ∷ 10 ∷ 129 ∷ 0 ∷ 160 ∷ 42 ∷ 8 ∷ 0 ∷ []

value_1 : EthernetHeader
value_1 = record {
  target = 2 ∷ 0 ∷ 0 ∷ 0 ∷ 0 ∷ 11 ∷ [];
  source = 2 ∷ 0 ∷ 0 ∷ 0 ∷ 0 ∷ 10 ∷ [];
  kind = Vlan;
  tag = Some (record { priority = 5; drop_eligible = false; vlan = 42; kind = 2048 });
}

written_1 : (write_sequence (ethernet_header_writes High value_1 ++ align ∷ []) 0 ≡ bits High row_1)
    × ((ethernet_header_decoder High).reads 0 (bits High row_1)
    ≡ Done (length (write_sequence (ethernet_header_writes High value_1) 0)) (Ok value_1))
unfolding row_1 value_1 and_then digits digits_number bytes_of unsigned unsigned_decoder bytes_decoder
written_1 = (refl, refl)

row_2 : List ℕ
row_2 = 2 ∷ 0 ∷ 0 ∷ 0 ∷ 0 ∷ 11 ∷ 2 ∷ 0 ∷ 0 ∷ 0 ∷ 0 ∷ 10 ∷ 136 ∷ 204 ∷ []

value_2 : EthernetHeader
value_2 = record {
  target = 2 ∷ 0 ∷ 0 ∷ 0 ∷ 0 ∷ 11 ∷ [];
  source = 2 ∷ 0 ∷ 0 ∷ 0 ∷ 0 ∷ 10 ∷ [];
  kind = Other 35020;
  tag = None;
}

written_2 : (write_sequence (ethernet_header_writes High value_2 ++ align ∷ []) 0 ≡ bits High row_2)
    × ((ethernet_header_decoder High).reads 0 (bits High row_2)
    ≡ Done (length (write_sequence (ethernet_header_writes High value_2) 0)) (Ok value_2))
unfolding row_2 value_2 and_then digits digits_number bytes_of unsigned unsigned_decoder bytes_decoder
written_2 = (refl, refl)
