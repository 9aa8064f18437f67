-- The removal of bytes against emulation undoes their insertion.
use Rattle.std.proofs.Common.{◌≡◌, ℕ, List, [], ◌∷◌, arith, refl}
use Rattle.bitstream_formats.specs.Emulation.{with_emulation, without_emulation, zeros_after}

pub without-with : (run : ℕ) (bytes : List ℕ) → without_emulation run (with_emulation run bytes) ≡ bytes
without-with run [] = refl
without-with run (byte ∷ bytes) =
    grind (arith, without-with (zeros_after 0 byte) bytes, without-with (zeros_after run byte) bytes)
