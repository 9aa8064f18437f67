-- Made by `./format --c` from ../protocols/formats/report_block.fields: edit that file and make this one anew.
-- The bits of a `ReportBlock` before others, and when a parse succeeds.
use Rattle.protocols_c.specs.ReportBlock.{report_block_parsed}
use Rattle.protocols.specs.ReportBlock.{report_block_bits}
use Rattle.protocols.specs.declared.report_block.ReportBlock.{ReportBlock}
use Rattle.protocols_c.proofs.SharedLemmas.{failed}
use Rattle.std.proofs.Common.{◌≡◌, ◌<◌, ◌≤◌, ◌++◌, ◌∙◌, ℕ, List, Result, Err, length, sym, ap, arith}
use Rattle.std.specs.Prelude.{pos, take, drop}
use Rattle.std.proofs.lemmas.List.{take-append-drop}
use Rattle.std.proofs.lemmas.Bool.{cases_lt}
use Rattle.bitstream_io.proofs.WordLemmas.{bits-append}
use Rattle.bitstream_io.proofs.CallerLemmas.{inl, inr}
use Rattle.bitstream_io.specs.Callers.{EndOfInput, Error, High, bits}

-- the bits of bytes whose first ones are known
pub first_bytes : (value : ReportBlock) (bytes : List ℕ) → bits High (take 24 bytes) ≡ report_block_bits value
    → bits High bytes ≡ report_block_bits value ++ bits High (drop 24 bytes)
first_bytes value bytes is =
    ap (bits High) (sym (take-append-drop 24 bytes)) ∙ bits-append High (take 24 bytes) (drop 24 bytes)
    ∙ ap (λ first. first ++ bits High (drop 24 bytes)) is

-- a parse succeeds only if all bits are there, and each constant is
pub ok_only : (bytes : List ℕ) (r : Result ReportBlock Error)
    → (length bytes < 24 → r ≡ Err EndOfInput)
    → (report_block_parsed r).status ≡ pos 0 → (24 ≤ length bytes)
ok_only bytes r short ok =
    elim (cases_lt (length bytes) 24) [
      | inl few ↦ absurd (failed 1 (omega arith) (ap (λ it. (report_block_parsed it).status) (short few)) ok)
      | inr enough ↦ enough
    ]
