use Rattle.std.proofs.Common.{◌∙◌, refl, sym}
use Rattle.bitstream_number.specs.Word.{word}
use Rattle.bitstream_number.proofs.WordLemmas.{length-word}
use Rattle.bitstream_stream.proofs.Writing.SinkLemmas.{refuses}
use Rattle.bitstream_stream.proofs.Shared.{exit_is}
use Rattle.bitstream_sink.proofs.bit_counter.BitCounterBitWrite.write_unsigned_counted.Goals as goal

pub returns-in_err-check : goal.returns-in_err-check
returns-in_err-check g c = record {
  writes = refuses _ _ _ _ _ refl
      (rw (← c.bits-bits.ensures.value) (c.in_err-check.ensures.refusal _ _)) (exit_is _ c.from_residual.ensures.1);
}

pub returns : goal.returns
returns g c = record {
  writes = c.add.ensures _ (word g.E.Endianness.order c.bits-bits.result (g.U.UnsignedInteger.value c.args.value))
      (rw (← c.bits-bits.ensures.value) (c.in_ok-check.ensures.word g.E.Endianness.order _)) (length-word g.E.Endianness.order _ _
      ∙ sym c.from.ensures);
}
