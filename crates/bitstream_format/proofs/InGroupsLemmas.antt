-- Sizes in groups, and greatest values: what the reads and writes in code return.
use Rattle.std.proofs.Common.{◌≡◌, ℕ, ◌<◌, Bool, false, List, [], ◌∷◌, Result, Ok, sym, subst}
use Rattle.std.specs.Prelude.{nat_le}
use Rattle.std.proofs.lemmas.Bool.{lt-leb}
use Rattle.bitstream_count.specs.declared.error.Error.{Error}
use Rattle.bitstream_value.specs.Lengths.{CountsBits}
use Rattle.bitstream_stream.specs.Writing.Sink.{Sink}
use Rattle.bitstream_io.specs.Callers.{Encoder, Order, same_error, WritesAll}
use Rattle.bitstream_format.specs.InGroups.{grouped_encoder, grouped_of}
use Rattle.bitstream_format.proofs.WithinLemmas.{counts-is}

-- the size of a part whose bits were counted is written in groups
pub grouped-wrote : {S : Type 0} (K : Sink S) (o : Order) (encoders : List Encoder) (r : Result ℕ Error) (s t : S)
    (x : Result (Unit {0}) Error) → CountsBits (λ x. x) 18446744073709551615 same_error encoders (Ok tt) r
    → WritesAll K (grouped_of o r ∷ []) s x t → WritesAll K (grouped_encoder o encoders ∷ []) s x t
unfolding grouped_encoder
grouped-wrote K o encoders r s t x counted wrote =
    subst (λ n. WritesAll K (grouped_of o n ∷ []) s x t) (sym (counts-is encoders counted)) wrote

-- a number above the greatest one
pub above-leb : (v most : ℕ) → most < v → nat_le v most ≡ false
above-leb v most above = lt-leb v most above
