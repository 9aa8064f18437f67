use Rattle.std.proofs.Common.{refl}
use Rattle.bitstream_sink.proofs.bit_counter.BitCounterBitWrite.byte_aligned.Goals as goal

pub returns : goal.returns
returns g c = record {
  aligned = (
    (λ aligned. (refl, c.byte_aligned.ensures.0 aligned)),
    (λ sound. c.byte_aligned.ensures.1 sound.1),
  );
}
