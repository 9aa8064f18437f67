use Rattle.std.proofs.Common.{◌∙◌, ap, sym, subst}
use Rattle.std.specs.Prelude.{slice_index, ◌<◌}
use Rattle.bitstream_format.proofs.SummedLemmas.{bytes-append}
use Rattle.bitstream_format.proofs.summed.SummingTarget.write_all.Goals as goal

pub invariant_of-self-clause-is : goal.invariant_of-self-clause-is
invariant_of-self-clause-is g c =
    c.take.ensures c.args.self.now.taken.list c.args.self.now.is ∙ ap g.C.Checksum.after (sym c.append.ensures)

pub invariant_of-self-clause-bytes : goal.invariant_of-self-clause-bytes
invariant_of-self-clause-bytes g c =
    λ k. subst (λ xs. slice_index xs k < 256) (sym c.append.ensures)
    (bytes-append c.args.self.now.taken.list c.args.bytes.now c.args.self.now.bytes (λ j. (c.type_inv.bytes j).fits) k)
