use Rattle.std.proofs.Common.{length, drop, arith, ap, ◌∙◌}
use Rattle.std.proofs.Math.Seq.{drop-nil}
use Rattle.std.specs.Prelude.{List, ℕ}
use Rattle.bitstream_io.proofs.BlockwiseLemmas.{block-grown, held-grown, held-passed}
use Rattle.bitstream_io.proofs.blockwise.Blockwise.write_next.Goals as goal

pub invariant_of-self-2 : goal.invariant_of-self-2
invariant_of-self-2 g c =
    let s = c.send.new.self in
    let none = ap (λ (l : List ℕ). length l) c.in_ok-send.ensures.empty in
    let few = s.few in
    let fits = c.if-bytes-self.false in
    let grown = block-grown _ c.write_all-2.result s.held c.write_all-2.new.self c.args.bytes.now c.write_all-2.ensures.bytes c.write_all-2.ensures.refused in
    record {
      few = omega arith;
      room = omega arith;
    }

pub returns : goal.returns
returns g c =
    let s = c.send.new.self in
    held-grown c.write_all-2.result _ _ s.sent s.held.bytes.items _ _ c.send.ensures.bytes s.few c.write_all-2.ensures.bytes

pub returns-then-bytes-self : goal.returns-then-bytes-self
returns-then-bytes-self g c =
    let s = c.send.new.self in
    held-passed c.write_all.result _ _ _ _ _ c.send.ensures.bytes
    (ap (drop s.sent) c.in_ok-send.ensures.empty ∙ drop-nil s.sent) c.write_all.ensures.bytes
