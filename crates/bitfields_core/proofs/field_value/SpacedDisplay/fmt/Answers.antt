use Rattle.std.proofs.Common.{rules, ℕ, List, [], ◌≡◌, ◌+◌, ◌<◌, ◌≤◌, ◌++◌, ◌∷◌, get_or, length, take, arith, ap, refl, sym, ◌∙◌}
use Rattle.std.proofs.Output.{has_written_append, has_written_of_eq, writes_in_calls_nil}
use Rattle.std.proofs.lemmas.List.{flat_map_more, take_all, take_more}
use Rattle.std.specs.Fmt.{decimal, HasWritten, IsPlainFormatter}
use Rattle.std.specs.declared.fmt.Formatter.{Formatter}
use Rattle.std.specs.List.{flat_map}
use Rattle.bitfields_core.specs.Decimal.{bytes_text}
use Rattle.bitfields_core.proofs.BytesLemmas.{bytes_text-first}
use Rattle.bitfields_core.proofs.field_value.SpacedDisplay.fmt.Goals as goal

-- nothing was written
nothing : {W : Type 0} (took : W → List ℕ → W → Type 0) (f : Formatter W) → IsPlainFormatter f
    → HasWritten took f [] f
nothing took f plain = record { wrote = writes_in_calls_nil took f.writer; plain = plain }

-- no bytes have no text
no_text : (bytes : List ℕ) → length bytes ≡ 0 → [] ≡ bytes_text bytes
no_text [] none = refl
no_text (b ∷ bytes) none = absurd (omega (arith, none))

-- one byte more, behind a space
more_text : (bytes : List ℕ) (i : ℕ) → i < length bytes
    → flat_map (λ (b : ℕ). 32 ∷ decimal b) (take i bytes) ++ (32 ∷ decimal (get_or bytes i 0))
    ≡ flat_map (λ (b : ℕ). 32 ∷ decimal b) (take (i + 1) bytes)
more_text bytes i h =
    flat_map_more (λ (b : ℕ). 32 ∷ decimal b) [] (take i bytes) (get_or bytes i 0)
    ∙ ap (flat_map (λ (b : ℕ). 32 ∷ decimal b)) (sym (take_more bytes i 0 h))

pub returns-in_default-clause-writes : goal.returns-in_default-clause-writes
returns-in_default-clause-writes g c = λ plain ok.
    has_written_of_eq _ _ _ _ _ (no_text c.args.self.now.bytes.now c.in_default.ensures.cases)
    (nothing g.W.Write.write_str_gives c.args.f.now plain)

pub loop-byte-init : goal.loop-byte-init
loop-byte-init g c = λ plain. nothing g.W.Write.write_str_gives c.write.new.self plain

pub loop-byte-preserved : goal.loop-byte-preserved
loop-byte-preserved g c = λ plain.
    let i = c.loop-byte.byte-index in
    let here : i < length c.in-Some.rest.now = omega arith in
    let before = c.loop-byte.invariant plain in
    has_written_of_eq _ _ _ _ _ (more_text c.in-Some.rest.now i here)
    (has_written_append _ _ _ _ _ _ before (c.in_ok-write-2.ensures.writes before.plain refl))

pub returns-clause-writes : goal.returns-clause-writes
returns-clause-writes g c = λ plain ok.
    let i = c.loop-byte.byte-index in
    let first = c.in-Some.first.now in
    let rest = c.in-Some.rest.now in
    let end : length rest ≤ i = omega arith in
    let bytes : c.args.self.now.bytes.now ≡ first ∷ rest = search rules in
    let wrote : HasWritten g.W.Write.write_str_gives c.args.f.now (decimal first) c.write.new.self = search rules in
    let text = ap (λ (xs : List ℕ). decimal first ++ flat_map (λ (b : ℕ). 32 ∷ decimal b) xs) (take_all i rest end)
    ∙ sym (bytes_text-first first rest) ∙ ap bytes_text (sym bytes) in
    has_written_of_eq _ _ _ _ _ text (has_written_append _ _ _ _ _ _ wrote (c.loop-byte.invariant wrote.plain))
