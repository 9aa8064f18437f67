use Rattle.std.proofs.Common.{◌≡◌, ◌∙◌, ◌-◌, ℕ, not, replicate, sym, ap, subst, arith}
use Rattle.bits_c.specs.Writer.{Wrote}
use Rattle.bits_c.proofs.RunLemmas.{same-more, same-room}
use Rattle.bits_c.proofs.WroteLemmas.{wrote-none}
use Rattle.bits_c.proofs.writer.golomb.append_others.Goals as goal

pub loop-left-init : goal.loop-left-init
loop-left-init g c =
    let none : 0 ≡ c.args.count - c.args.count = omega arith in
    record {
      most = omega arith;
      wrote = subst (λ (k : ℕ). Wrote g.O.Endianness.order (replicate k (not c.args.stop)) c.args.writer.now c.args.writer.now)
          none (wrote-none g.O.Endianness.order c.args.writer.now);
    }

pub append-requires-clause-room : goal.append-requires-clause-room
append-requires-clause-room g c =
    same-room g.O.Endianness.order (not c.args.stop) c.args.count c.loop-left.left _ _ _ (omega arith)
    c.loop-left.invariant.most c.requires c.loop-left.invariant.wrote

pub loop-left-preserved : goal.loop-left-preserved
loop-left-preserved g c = record {
  most = (let most = c.loop-left.invariant.most in omega (arith, most));
  wrote = same-more g.O.Endianness.order (not c.args.stop) c.args.count c.loop-left.left c.from-left.result _ _ _ _
      (let is = c.from-left.ensures in omega (arith, is)) c.loop-left.invariant.most c.requires c.loop-left.invariant.wrote
      (c.others.ensures.bits g.O.Endianness.order ∙ ap (λ (k : ℕ). replicate k (not c.args.stop)) (sym c.from-left.ensures))
      c.append.ensures;
}

pub returns : goal.returns
returns g c =
    let all : c.args.count - c.loop-left.left ≡ c.args.count = omega arith in
    subst (λ (k : ℕ). Wrote g.O.Endianness.order (replicate k (not c.args.stop)) c.args.writer.now c.loop-left.writer) all
    c.loop-left.invariant.wrote
