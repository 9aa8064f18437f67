use Rattle.std.proofs.Common.{arith, refl, ap₂, ◌∙◌, ◌++◌}
use Rattle.std.proofs.lemmas.List.{take-append-drop}
use Rattle.bitstream_order.proofs.Streaming.TailLemmas.{tail_part, none_left, place_behind}
use Rattle.bitstream_order.proofs.streams.slice.SliceSource.read_prefix.Goals as goal

pub returns-clause-bytes : goal.returns-clause-bytes
returns-clause-bytes c =
    let prefix = c.copy_prefix.ensures.copied c.if-not-copy_prefix.false in
    let whole = ap₂ (λ x y. x ++ y) prefix c.split_at.ensures.back
    ∙ take-append-drop c.args.count c.args.self.now.bytes.now in
    cc

pub invariant_of-self-clause-tail : goal.invariant_of-self-clause-tail
invariant_of-self-clause-tail c = tail_part _ _ _ _ c.args.self.now.tail c.split_at.ensures.back

pub invariant_of-self-clause-ended : goal.invariant_of-self-clause-ended
invariant_of-self-clause-ended c = λ past. none_left _ _ _ (c.args.self.now.ended past) c.split_at.ensures.back

pub returns-clause-takes : goal.returns-clause-takes
returns-clause-takes c = (refl, place_behind _ _ _ _ _ c.args.self.now.tail c.split_at.ensures.back (omega arith))
