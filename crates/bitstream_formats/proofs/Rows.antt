-- Worked rows: bytes of documents and of files, against the definitions.
use Rattle.std.proofs.Common.{◌≡◌, ℕ, List, [], ◌∷◌, refl}
use Rattle.std.specs.Prelude.{Ok, Err, ◌++◌}
use Rattle.bitstream_io.specs.Callers.{High, bits}
use Rattle.bitstream_io.specs.Codec.{Done, and_then}
use Rattle.bitstream_io.specs.ReadTable.{unsigned_decoder}
use Rattle.bitstream_io.specs.Word.{digits, digits_number}
use Rattle.bitstream_formats.specs.Emulation.{without_emulation}
use Rattle.bitstream_formats.specs.Leb128.{leb128_decoder}
use Rattle.bitstream_formats.specs.declared.av1.Av1Error.TheVariants.{TooLarge}

-- an example of DWARF, which has these numbers too; 2 with a byte of zeros after it; 1 in eight bytes; and nine bytes,
-- of which eight are taken
leb128_numbers :
    let more : List ℕ = 0x80 ∷ 0x80 ∷ 0x80 ∷ 0x80 ∷ 0x80 ∷ 0x80 ∷ [] in
    ((leb128_decoder High).reads 0 (bits High (0xb9 ∷ 0x64 ∷ [])) ≡ Done 16 (Ok (Ok 12857)))
    × ((leb128_decoder High).reads 0 (bits High (0x82 ∷ 0x00 ∷ [])) ≡ Done 16 (Ok (Ok 2)))
    × ((leb128_decoder High).reads 0 (bits High (0x81 ∷ more ++ 0x00 ∷ [])) ≡ Done 64 (Ok (Ok 1)))
    × ((leb128_decoder High).reads 0 (bits High (0x81 ∷ more ++ 0x80 ∷ 0x00 ∷ [])) ≡ Done 64 (Ok (Err TooLarge)))
unfolding and_then unsigned_decoder digits digits_number
leb128_numbers = (refl, refl, refl, refl)

-- a parameter set that x264 wrote, and its bytes as ffmpeg reads them
parameter_set : without_emulation 0 (0x67 ∷ 0x42 ∷ 0xc0 ∷ 0x0a ∷ 0xd9 ∷ 0x04 ∷ 0x7b ∷ 0x01 ∷ 0x10 ∷ 0x00 ∷ 0x00 ∷ 0x03
    ∷ 0x00 ∷ 0x10 ∷ 0x00 ∷ 0x00 ∷ 0x03 ∷ 0x03 ∷ 0x20 ∷ 0xf1 ∷ 0x22 ∷ 0x64 ∷ 0x80 ∷ [])
    ≡ 0x67 ∷ 0x42 ∷ 0xc0 ∷ 0x0a ∷ 0xd9 ∷ 0x04 ∷ 0x7b ∷ 0x01 ∷ 0x10 ∷ 0x00 ∷ 0x00 ∷ 0x00 ∷ 0x10 ∷ 0x00 ∷ 0x00 ∷ 0x03
    ∷ 0x20 ∷ 0xf1 ∷ 0x22 ∷ 0x64 ∷ 0x80 ∷ []
parameter_set = refl
