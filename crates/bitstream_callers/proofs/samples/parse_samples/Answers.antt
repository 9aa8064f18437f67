use Rattle.bitstream_io.proofs.CallerLemmas.{High, arith, inl, inr, items_short, items_there, map_is_err, slice_ends, unsigned-word}
use Rattle.bitstream_callers.proofs.samples.parse_samples.Goals as goal

pub returns-clause-there : goal.returns-clause-there
returns-clause-there c = λ enough. elim c.read_samples.ensures [
  | inl read ↦ inr (items_there (unsigned-word High 16 12 (omega arith)) c.args.count slice_ends c.over.ensures.state
      read enough)
  | inr refused ↦ inl refused.0
]

pub returns-clause-short : goal.returns-clause-short
returns-clause-short c = λ few. elim c.read_samples.ensures [
  | inl read ↦ inr (map_is_err _ _ (items_short (unsigned-word High 16 12 (omega arith)) c.args.count slice_ends
      c.over.ensures.state read few))
  | inr refused ↦ inl refused.0
]
