-- The texts of a Vorbis comment.
use Rattle.std.proofs.Common.{◌≡◌, ℕ, Bool, true, false, List}
use Rattle.std.specs.Str.{IsUtf8, is_utf8}
use Rattle.std.proofs.lemmas.Str.{IsUtf8-from_is_utf8}

-- bytes that make no text are not UTF-8
pub no_text : (bytes : List ℕ) → (b : Bool) → is_utf8 bytes ≡ b → (IsUtf8 bytes → ⊥) → is_utf8 bytes ≡ false
no_text bytes true is not = absurd (not (IsUtf8-from_is_utf8 bytes is))
no_text bytes false is not = is
