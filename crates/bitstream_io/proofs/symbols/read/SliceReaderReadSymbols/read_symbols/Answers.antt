use Rattle.std.proofs.Common.{◌∙◌, arith, length, length-set, refl}
use Rattle.bitstream_value.proofs.ArrayLemmas.{items-start, items-put, items-stop}
use Rattle.bitstream_io.proofs.PlaceLemmas.{stopped}
use Rattle.bitstream_io.proofs.symbols.read.SliceReaderReadSymbols.read_symbols.Goals as goal

pub loop-at-init : goal.loop-at-init
loop-at-init g c =
    let kept = c.take_found-at.auto.symbols in
    record {
      within = omega (arith, c.take_found-at.ensures.within, kept);
      size = kept;
      reads = c.take_found-at.ensures.reads c.args.self.now (items-start _ _);
    }

pub returns-in_err-symbols : goal.returns-in_err-symbols
returns-in_err-symbols g c =
    let size = c.loop-at.invariant.size in
    record {
      reads = stopped _ c.from_residual.result c.from_residual.ensures.1
          (items-stop _ c.loop-at.at (length c.args.symbols.now) _ (omega (arith, c.loop-at-test.true, size))
          c.loop-at.invariant.reads (rw c.tree.ensures at c.in_err-symbols.ensures.reads));
    }

pub loop-at-preserved : goal.loop-at-preserved
loop-at-preserved g c =
    let kept = c.take_found-at-in-loop-at.auto.symbols in
    record {
      within = omega (arith, c.take_found-at-in-loop-at.ensures.within, kept);
      size = kept ∙ simp length-set c.loop-at.invariant.size;
      reads = c.take_found-at-in-loop-at.ensures.reads c.args.self.now
          (items-put _ (length c.loop-at.symbols) c.loop-at.at c.loop-at.symbols c.in_ok-symbols.field-0
          c.loop-at-test.true refl c.loop-at.invariant.reads (rw c.tree.ensures at c.in_ok-symbols.ensures.reads));
    }
