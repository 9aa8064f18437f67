-- The scaling lists of H.264.
use Rattle.std.specs.Prelude.{ℕ, ◌+◌, ◌==◌, Bool, if◌then◌else◌}

-- the number of scaling lists that a picture parameter set may have (section 7.3.2.2): six, and with the
-- transform of 8x8 samples two more, or six more if chroma has the same number of samples as luma
abbrev pub lists_of_picture : ℕ → Bool → ℕ
lists_of_picture chroma_format large_transform =
    6 + (if large_transform then (if chroma_format == 3 then 6 else 2) else 0)
