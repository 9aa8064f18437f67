-- Bytes against the emulation of a start code in a unit of H.264.
use Rattle.std.specs.Prelude.{ℕ, ◌==◌, ◌&&◌, List, [], ◌∷◌, nat_le, if◌then◌else◌}

-- the number of zeros at the end of the bytes after this one, but at most two
abbrev pub zeros_after : ℕ → ℕ → ℕ
zeros_after run byte = if byte == 0 then (if run == 0 then 1 else 2) else 0

-- the bytes after `zeros` zeros, without each 3 that follows two zeros
abbrev pub without_emulation : ℕ → List ℕ → List ℕ
without_emulation run [] = []
without_emulation run (byte ∷ bytes) =
    if (run == 2) && (byte == 3) then without_emulation 0 bytes
    else byte ∷ without_emulation (zeros_after run byte) bytes

-- the bytes after `zeros` zeros, with a 3 before each byte of at most 3 that follows two zeros
abbrev pub with_emulation : ℕ → List ℕ → List ℕ
with_emulation run [] = []
with_emulation run (byte ∷ bytes) =
    if (run == 2) && nat_le byte 3 then 3 ∷ byte ∷ with_emulation (zeros_after 0 byte) bytes
    else byte ∷ with_emulation (zeros_after run byte) bytes
