-- Made by `./format --c` from ../bitstream_callers/formats/primary_header.fields: edit that file and make this one anew.
-- The bits of a `PrimaryHeader` before others, and when a parse succeeds.
use Rattle.ccsds_c.specs.PrimaryHeader.{primary_header_parsed}
use Rattle.bitstream_callers.specs.PrimaryHeader.{primary_header_bits, const_at_0}
use Rattle.bitstream_callers.specs.declared.primary_header.PrimaryHeader.{PrimaryHeader}
use Rattle.bitstream_callers.specs.declared.primary_header.PrimaryHeaderError.{PrimaryHeaderError}
use Rattle.bitstream_callers.specs.declared.primary_header.PrimaryHeaderError.TheVariants.{Reader, WrongVersion}
use Rattle.ccsds_c.proofs.SharedLemmas.{failed}
use Rattle.std.proofs.Common.{◌≡◌, ◌≢◌, ◌<◌, ◌≤◌, ◌++◌, ◌∙◌, ℕ, List, Result, Err, length, sym, ap, arith}
use Rattle.std.specs.Prelude.{pos, take, drop}
use Rattle.std.proofs.lemmas.List.{take-append-drop}
use Rattle.std.proofs.lemmas.Bool.{cases_lt}
use Rattle.std.proofs.lemmas.Bool.Decides.{eqb_tells}
use Rattle.bitstream_io.proofs.WordLemmas.{bits-append}
use Rattle.bitstream_io.proofs.CallerLemmas.{inl, inr}
use Rattle.bitstream_io.specs.Callers.{EndOfInput, High, bits}

-- the bits of bytes whose first ones are known
pub first_bytes : (value : PrimaryHeader) (bytes : List ℕ) → bits High (take 6 bytes) ≡ primary_header_bits value
    → bits High bytes ≡ primary_header_bits value ++ bits High (drop 6 bytes)
first_bytes value bytes is =
    ap (bits High) (sym (take-append-drop 6 bytes)) ∙ bits-append High (take 6 bytes) (drop 6 bytes)
    ∙ ap (λ first. first ++ bits High (drop 6 bytes)) is

-- a parse succeeds only if all bits are there, and each constant is
pub ok_only : (bytes : List ℕ) (r : Result PrimaryHeader PrimaryHeaderError)
    → (length bytes < 6 → (1 ≤ length bytes → const_at_0 (bits High bytes) ≡ 0) → r ≡ Err (Reader EndOfInput))
    → (1 ≤ length bytes → const_at_0 (bits High bytes) ≢ 0 → r ≡ Err WrongVersion)
    → (primary_header_parsed r).status ≡ pos 0 → (6 ≤ length bytes) × (const_at_0 (bits High bytes) ≡ 0)
ok_only bytes r short other_0 ok =
    elim (eqb_tells (const_at_0 (bits High bytes)) 0) [
      | inl is_0 ↦
          elim (cases_lt (length bytes) 6) [
            | inl few ↦ absurd (failed 1 (omega arith) (ap (λ it. (primary_header_parsed it).status) (short few (λ _. is_0.1))) ok)
            | inr enough ↦ (enough, is_0.1)
          ]
      | inr differs ↦
          elim (cases_lt (length bytes) 1) [
            | inl few ↦ absurd (failed 1 (omega arith) (ap (λ it. (primary_header_parsed it).status) (short (omega (arith, few)) (λ enough. absurd (omega (arith, enough, few))))) ok)
            | inr some ↦ absurd (failed 5 (omega arith) (ap (λ it. (primary_header_parsed it).status) (other_0 some differs.1)) ok)
          ]
    ]
