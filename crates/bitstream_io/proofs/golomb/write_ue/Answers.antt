use Rattle.bitstream_io.proofs.CallerLemmas.{◌+◌, arith, few_writes, one_shl, top}
use Rattle.bitstream_io.specs.Golomb.{zeros_of}
use Rattle.bitstream_io.proofs.GolombLemmas.{has_word}
use Rattle.bitstream_io.proofs.golomb.write_ue.Goals as goal

pub returns-in_err-write_unary : goal.returns-in_err-write_unary
returns-in_err-write_unary g c = rw (has_word _ c.args.value (omega arith)) (search few_writes depth 12)

pub overflow_sub-more : goal.overflow_sub-more
overflow_sub-more g c =
    let t = top 32 (c.args.value + 1) (omega arith) (omega arith) in
    rw (one_shl (zeros_of c.args.value) 32 t.within) t.low

pub returns : goal.returns
returns g c =
    let t = top 32 (c.args.value + 1) (omega arith) (omega arith) in
    let last = rw (one_shl (zeros_of c.args.value) 32 t.within) at c.write_var.ensures.writes in
    rw (has_word _ c.args.value (omega arith)) (search (few_writes, last) depth 12)
