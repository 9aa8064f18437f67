-- Made by `./format --c` from ../protocols/formats/icmp_ids.fields: edit that file and make this one anew.
-- The bits of a `IcmpIds` before others, and when a parse succeeds.
use Rattle.protocols_c.specs.IcmpIds.{icmp_ids_parsed}
use Rattle.protocols.specs.IcmpIds.{icmp_ids_bits}
use Rattle.protocols.specs.declared.icmp_ids.IcmpIds.{IcmpIds}
use Rattle.protocols_c.proofs.SharedLemmas.{failed}
use Rattle.std.proofs.Common.{◌≡◌, ◌<◌, ◌≤◌, ◌++◌, ◌∙◌, ℕ, List, Result, Err, length, sym, ap, arith}
use Rattle.std.specs.Prelude.{pos, take, drop}
use Rattle.std.proofs.lemmas.List.{take-append-drop}
use Rattle.std.proofs.lemmas.Bool.{cases_lt}
use Rattle.bitstream_io.proofs.WordLemmas.{bits-append}
use Rattle.bitstream_io.proofs.CallerLemmas.{inl, inr}
use Rattle.bitstream_io.specs.Callers.{EndOfInput, Error, High, bits}

-- the bits of bytes whose first ones are known
pub first_bytes : (value : IcmpIds) (bytes : List ℕ) → bits High (take 4 bytes) ≡ icmp_ids_bits value
    → bits High bytes ≡ icmp_ids_bits value ++ bits High (drop 4 bytes)
first_bytes value bytes is =
    ap (bits High) (sym (take-append-drop 4 bytes)) ∙ bits-append High (take 4 bytes) (drop 4 bytes)
    ∙ ap (λ first. first ++ bits High (drop 4 bytes)) is

-- a parse succeeds only if all bits are there, and each constant is
pub ok_only : (bytes : List ℕ) (r : Result IcmpIds Error)
    → (length bytes < 4 → r ≡ Err EndOfInput)
    → (icmp_ids_parsed r).status ≡ pos 0 → (4 ≤ length bytes)
ok_only bytes r short ok =
    elim (cases_lt (length bytes) 4) [
      | inl few ↦ absurd (failed 1 (omega arith) (ap (λ it. (icmp_ids_parsed it).status) (short few)) ok)
      | inr enough ↦ enough
    ]
