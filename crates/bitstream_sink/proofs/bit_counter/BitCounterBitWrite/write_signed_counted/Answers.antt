use Rattle.std.proofs.Common.{◌∙◌, refl, sym}
use Rattle.bitstream_number.specs.Word.{signed_word}
use Rattle.bitstream_number.proofs.WordLemmas.{length-word}
use Rattle.bitstream_stream.proofs.Writing.SinkLemmas.{refuses}
use Rattle.bitstream_stream.proofs.Shared.{exit_is}
use Rattle.bitstream_stream.proofs.Writing.WriteLemmas.{signed-accepts}
use Rattle.bitstream_sink.proofs.bit_counter.BitCounterBitWrite.write_signed_counted.Goals as goal

pub returns-in_err-check_signed : goal.returns-in_err-check_signed
returns-in_err-check_signed g c = record {
  writes = refuses _ _ _ _ _ refl
      (rw (← c.bits-bits.ensures.value) (c.in_err-check_signed.ensures.refusal _ _))
      (exit_is _ c.from_residual.ensures.1);
}

pub returns : goal.returns
returns g c = record {
  writes = c.add.ensures _ (signed_word g.E.Endianness.order c.bits-bits.result (g.S.Numeric.integer c.args.value))
      (rw (← c.bits-bits.ensures.value) (signed-accepts g.E.Endianness.order _ _ _ _
      c.in_ok-check_signed.ensures.some c.in_ok-check_signed.ensures.holds)) (length-word g.E.Endianness.order _ _
      ∙ sym c.from.ensures);
}
