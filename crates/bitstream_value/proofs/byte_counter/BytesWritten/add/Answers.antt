use Rattle.std.proofs.Common.{refl, arith}
use Rattle.bitstream_value.proofs.ByteTypeLemmas.{counted}
use Rattle.bitstream_value.proofs.byte_counter.BytesWritten.add.Goals as goal

pub returns : goal.returns
returns g c = λ buffer len.
    let value = g.N.Counter.value in
    counted (λ w. value w.count) g.N.Counter.greatest (λ w. w.within) buffer c.args.bytes _ _ _ _ len refl
    (omega (arith, c.in_ok-checked_add_assign.ensures.sum, c.in_ok-bytes.ensures.0))
