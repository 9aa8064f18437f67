-- Counters as sinks.
-- A sink is a record with its laws in it: so lemmas are imported.
use Rattle.std.specs.Prelude.{◌≡◌, ℕ, ◌+◌, ◌≤◌, Bool, false, List, [], length, None, Some, Result, Ok}
use Rattle.std.proofs.Common.{sym, add-zero, arith, length-append}
use Rattle.bitstream_number.specs.Word.{Order}
use Rattle.bitstream_count.specs.Codec.{Encoder}
use Rattle.bitstream_count.specs.declared.error.Error.{Error}
use Rattle.bitstream_stream.specs.Writing.Sink.{Sink, Writes, IsFullLimit}

-- a sink that keeps only the number of bits written, up to the greatest number of its type
abbrev pub counter_sink : {S : Type 0} → Order → (count : S → ℕ) → (greatest : ℕ) → IsFullLimit (Some greatest)
    → ((s : S) → count s ≤ greatest) → Sink S
counter_sink o count greatest full within = record {
  order = o;
  appends = λ a x b. count b ≡ count a + length x;
  contents = λ _. None;
  fills = λ _ _ _. ⊥;
  len = count;
  limit = Some greatest;
  failed = λ _. false;
  refusals = λ _. [];
  may = λ _. ⊥;
  references = λ _. [];
  appends_nil = λ a. sym (add-zero (count a));
  appends_trans = λ a b c x y p q. omega (arith, p, q, length-append x y);
  fills_behind = λ a b x y known p q. q;
  within = within;
  appends_len = λ a b x p. p;
  limit_full = full;
}

-- a call whose encoding has n bits, whatever its encoder is
abbrev pub CountsWord : {S T : Type 0} → Sink S → ℕ → S → Result T Error → S → Type 0
CountsWord K n old result new = (encoder : Encoder) (x : List Bool) → encoder (K.len old) ≡ Ok x → length x ≡ n
    → Writes K encoder old result new
