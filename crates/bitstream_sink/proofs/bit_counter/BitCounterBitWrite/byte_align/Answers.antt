use Rattle.std.proofs.Common.{refl, false}
use Rattle.std.proofs.lemmas.List.{length-replicate}
use Rattle.bitstream_stream.specs.Alignment.{to_boundary}
use Rattle.bitstream_stream.proofs.Shared.{exit_is}
use Rattle.bitstream_sink.proofs.CountLemmas.{counted, overflowed}
use Rattle.bitstream_sink.proofs.bit_counter.BitCounterBitWrite.byte_align.Goals as goal

pub returns-in_err-self : goal.returns-in_err-self
returns-in_err-self g c =
    let value = g.N.Counter.value in
    let zeros = to_boundary (value c.args.self.now.count) in
    record {
      writes = overflowed g.E.Endianness.order (λ w. value w.count) g.N.Counter.greatest g.N.Counter.full (λ w. w.within) _ _ _ _
          _ zeros refl (length-replicate zeros false) (exit_is _ c.from_residual.ensures.1) (c.in_err-self.ensures)
          refl;
    }

pub returns : goal.returns
returns g c =
    let value = g.N.Counter.value in
    let zeros = to_boundary (value c.args.self.now.count) in
    record {
      writes = counted g.E.Endianness.order (λ w. value w.count) g.N.Counter.greatest g.N.Counter.full (λ w. w.within) _ _ _ _ _
          zeros _ refl (length-replicate zeros false) refl c.in_ok-self.ensures.0;
    }
