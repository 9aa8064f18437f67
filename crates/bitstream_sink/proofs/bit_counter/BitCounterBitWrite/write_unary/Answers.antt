use Rattle.std.proofs.Common.{◌∙◌, refl, sym, ap, ◌+◌}
use Rattle.std.specs.Prelude.{◌==◌}
use Rattle.bitstream_count.proofs.UnaryLemmas.{length-unary}
use Rattle.bitstream_sink.proofs.bit_counter.BitCounterBitWrite.write_unary.Goals as goal

pub returns : goal.returns
returns g c = record {
  writes = c.add.ensures _ _ refl (length-unary (g.S.Width.BITS == 1) c.args.value
      ∙ ap (λ n. n + 1) (sym c.from.ensures));
}
