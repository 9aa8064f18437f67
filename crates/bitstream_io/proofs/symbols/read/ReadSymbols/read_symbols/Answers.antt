use Rattle.std.proofs.Common.{◌<◌, arith, length, length-set, refl}
use Rattle.bitstream_value.proofs.ArrayLemmas.{items-start, items-put, items-stop, items-all}
use Rattle.bitstream_io.proofs.PlaceLemmas.{stopped}
use Rattle.bitstream_io.proofs.symbols.read.ReadSymbols.read_symbols.Goals as goal

pub loop-at-init : goal.loop-at-init
loop-at-init g c = record { size = refl; reads = items-start _ _ }

pub returns-in_err-symbols : goal.returns-in_err-symbols
returns-in_err-symbols g c = record {
  reads = stopped _ c.from_residual.result c.from_residual.ensures.1
      (items-stop _ c.loop-at.at (length c.args.symbols.now) _ c.loop-at-test.true c.loop-at.invariant.reads
      (rw c.tree.ensures at c.in_err-symbols.ensures.reads));
}

pub loop-at-preserved : goal.loop-at-preserved
loop-at-preserved g c =
    let size = c.loop-at.invariant.size in
    let less : c.loop-at.at < length c.loop-at.symbols = omega (arith, c.loop-at-test.true, size) in
    record {
      size = simp length-set size;
      reads = items-put _ (length c.loop-at.symbols) c.loop-at.at c.loop-at.symbols c.in_ok-symbols.field-0 less refl
          c.loop-at.invariant.reads (rw c.tree.ensures at c.in_ok-symbols.ensures.reads);
    }

pub returns : goal.returns
returns g c = record {
  reads = items-all _ (length c.args.symbols.now) c.loop-at.at c.loop-at.symbols
      (omega (arith, c.loop-at-test.false, c.loop-at.auto.at-end)) c.loop-at.invariant.size c.loop-at.invariant.reads;
}
