-- Made by `./format --c`, which prints the same for each crate: edit tools/describing/c/shared.py.
-- Bytes up to the end: packed bytes are all bytes.
use Rattle.std.proofs.Common.{◌≡◌, ◌∙◌, ◌++◌, ◌∷◌, [], ℕ, List, ap}
use Rattle.bitstream_io.specs.Alignment.{to_boundary}
use Rattle.bitstream_io.specs.Callers.{Encoder, align, write_sequence}
use Rattle.bitstream_io.proofs.CallerLemmas.{Packs, packs-whole}

-- calls that fill whole bytes need no alignment
pub whole_packed : {es : List Encoder} {k : ℕ} → Packs es k → (n : ℕ) → k ≡ n → to_boundary n ≡ 0
    → write_sequence (es ++ align ∷ []) 0 ≡ write_sequence es 0
whole_packed all n same whole = packs-whole all (ap to_boundary same ∙ whole)
