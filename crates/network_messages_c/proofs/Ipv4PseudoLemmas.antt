-- Made by `./format --c` from ../network_messages/formats/ipv4_pseudo.fields: edit that file and make this one anew.
-- The bits of a `Ipv4Pseudo` before others, and when a parse succeeds.
use Rattle.network_messages_c.specs.Ipv4Pseudo.{ipv4_pseudo_parsed}
use Rattle.network_messages.specs.Ipv4Pseudo.{ipv4_pseudo_bits}
use Rattle.network_messages.specs.declared.ipv4_pseudo.Ipv4Pseudo.{Ipv4Pseudo}
use Rattle.network_messages_c.proofs.SharedLemmas.{failed}
use Rattle.std.proofs.Common.{◌≡◌, ◌<◌, ◌≤◌, ◌++◌, ◌∙◌, ℕ, List, Result, Err, length, sym, ap, arith}
use Rattle.std.specs.Prelude.{pos, take, drop}
use Rattle.std.proofs.lemmas.List.{take-append-drop}
use Rattle.std.proofs.lemmas.Bool.{cases_lt}
use Rattle.bitstream_io.proofs.WordLemmas.{bits-append}
use Rattle.bitstream_io.proofs.CallerLemmas.{inl, inr}
use Rattle.bitstream_io.specs.Callers.{EndOfInput, Error, High, bits}

-- the bits of bytes whose first ones are known
pub first_bytes : (value : Ipv4Pseudo) (bytes : List ℕ) → bits High (take 12 bytes) ≡ ipv4_pseudo_bits value
    → bits High bytes ≡ ipv4_pseudo_bits value ++ bits High (drop 12 bytes)
first_bytes value bytes is =
    ap (bits High) (sym (take-append-drop 12 bytes)) ∙ bits-append High (take 12 bytes) (drop 12 bytes)
    ∙ ap (λ first. first ++ bits High (drop 12 bytes)) is

-- a parse succeeds only if all bits are there, and each constant is
pub ok_only : (bytes : List ℕ) (r : Result Ipv4Pseudo Error)
    → (length bytes < 12 → r ≡ Err EndOfInput)
    → (ipv4_pseudo_parsed r).status ≡ pos 0 → (12 ≤ length bytes)
ok_only bytes r short ok =
    elim (cases_lt (length bytes) 12) [
      | inl few ↦ absurd (failed 1 (omega arith) (ap (λ it. (ipv4_pseudo_parsed it).status) (short few)) ok)
      | inr enough ↦ enough
    ]
