-- Made by `./format --c` from ../protocols/formats/stun_header.fields: edit that file and make this one anew.
-- The bits of a `StunHeader` before others, and when a parse succeeds.
use Rattle.protocols_c.specs.StunHeader.{stun_header_parsed}
use Rattle.protocols.specs.StunHeader.{stun_header_bits, const_at_0, const_at_32}
use Rattle.protocols.specs.declared.stun_header.StunHeader.{StunHeader}
use Rattle.protocols.specs.declared.stun_header.StunHeaderError.{StunHeaderError}
use Rattle.protocols.specs.declared.stun_header.StunHeaderError.TheVariants.{Reader, NoStun, NoCookie}
use Rattle.protocols_c.proofs.SharedLemmas.{failed}
use Rattle.std.proofs.Common.{◌≡◌, ◌≢◌, ◌<◌, ◌≤◌, ◌++◌, ◌∙◌, ℕ, List, Result, Err, length, sym, ap, arith}
use Rattle.std.specs.Prelude.{pos, take, drop}
use Rattle.std.proofs.lemmas.List.{take-append-drop}
use Rattle.std.proofs.lemmas.Bool.{cases_lt}
use Rattle.std.proofs.lemmas.Bool.Decides.{eqb_tells}
use Rattle.bitstream_io.proofs.WordLemmas.{bits-append}
use Rattle.bitstream_io.proofs.CallerLemmas.{inl, inr}
use Rattle.bitstream_io.specs.Callers.{EndOfInput, High, bits}

-- the bits of bytes whose first ones are known
pub first_bytes : (value : StunHeader) (bytes : List ℕ) → bits High (take 20 bytes) ≡ stun_header_bits value
    → bits High bytes ≡ stun_header_bits value ++ bits High (drop 20 bytes)
first_bytes value bytes is =
    ap (bits High) (sym (take-append-drop 20 bytes)) ∙ bits-append High (take 20 bytes) (drop 20 bytes)
    ∙ ap (λ first. first ++ bits High (drop 20 bytes)) is

-- a parse succeeds only if all bits are there, and each constant is
pub ok_only : (bytes : List ℕ) (r : Result StunHeader StunHeaderError)
    → (length bytes < 20 → (1 ≤ length bytes → const_at_0 (bits High bytes) ≡ 0) → (8 ≤ length bytes → const_at_32 (bits High bytes) ≡ 554869826) → r ≡ Err (Reader EndOfInput))
    → (1 ≤ length bytes → const_at_0 (bits High bytes) ≢ 0 → r ≡ Err NoStun)
    → (8 ≤ length bytes → const_at_0 (bits High bytes) ≡ 0 → const_at_32 (bits High bytes) ≢ 554869826 → r ≡ Err NoCookie)
    → (stun_header_parsed r).status ≡ pos 0 → (20 ≤ length bytes) × (const_at_0 (bits High bytes) ≡ 0) × (const_at_32 (bits High bytes) ≡ 554869826)
ok_only bytes r short other_0 other_1 ok =
    elim (eqb_tells (const_at_0 (bits High bytes)) 0) [
      | inl is_0 ↦
          elim (eqb_tells (const_at_32 (bits High bytes)) 554869826) [
            | inl is_1 ↦
                elim (cases_lt (length bytes) 20) [
                  | inl few ↦ absurd (failed 1 (omega arith) (ap (λ it. (stun_header_parsed it).status) (short few (λ _. is_0.1) (λ _. is_1.1))) ok)
                  | inr enough ↦ (enough, is_0.1, is_1.1)
                ]
            | inr differs ↦
                elim (cases_lt (length bytes) 8) [
                  | inl few ↦ absurd (failed 1 (omega arith) (ap (λ it. (stun_header_parsed it).status) (short (omega (arith, few)) (λ _. is_0.1) (λ enough. absurd (omega (arith, enough, few))))) ok)
                  | inr some ↦ absurd (failed 6 (omega arith) (ap (λ it. (stun_header_parsed it).status) (other_1 some is_0.1 differs.1)) ok)
                ]
          ]
      | inr differs ↦
          elim (cases_lt (length bytes) 1) [
            | inl few ↦ absurd (failed 1 (omega arith) (ap (λ it. (stun_header_parsed it).status) (short (omega (arith, few)) (λ enough. absurd (omega (arith, enough, few))) (λ enough. absurd (omega (arith, enough, few))))) ok)
            | inr some ↦ absurd (failed 5 (omega arith) (ap (λ it. (stun_header_parsed it).status) (other_0 some differs.1)) ok)
          ]
    ]
