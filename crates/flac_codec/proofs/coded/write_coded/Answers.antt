use Rattle.std.proofs.lemmas.Bool.{le-ltb, lt-ltb}
use Rattle.bitstream_io.proofs.WriteSteps.{next_call, next_write, stop_call, stop_write}
use Rattle.flac_codec.proofs.CodedLemmas.{number_below}
use Rattle.flac_codec.proofs.coded.write_coded.Goals as goal

pub returns-in_err-write_unary : goal.returns-in_err-write_unary
returns-in_err-write_unary g c =
    rw (lt-ltb c.args.number 128 c.if-number-lt128.true)
    (stop_call _ _ _ _ _ _ _ c.from_residual.ensures.1 c.in_err-write_unary.ensures.writes)

pub returns-then-number-lt128 : goal.returns-then-number-lt128
returns-then-number-lt128 g c =
    rw (lt-ltb c.args.number 128 c.if-number-lt128.true)
    (next_call _ _ _ _ _ _ _ c.in_ok-write_unary.ensures.writes c.write.ensures.writes)

pub returns-in_err-write_unary-2 : goal.returns-in_err-write_unary-2
returns-in_err-write_unary-2 g c =
    let stop = rw c.bytes_needed-bytes.ensures at c.in_err-write_unary-2.ensures.writes in
    rw (le-ltb c.args.number 128 c.if-number-lt128.false)
    (stop_call _ _ _ _ _ _ _ c.from_residual-in_err-write_unary-2.ensures.1 stop)

pub returns-in_err-write_var : goal.returns-in_err-write_var
returns-in_err-write_var g c =
    let bytes = c.bytes_needed-bytes.ensures in
    let unary = rw bytes at c.in_ok-write_unary-2.ensures.writes in
    let stop = rw (bytes, number_below c.args.number c.requires) at c.in_err-write_var.ensures.writes in
    rw (le-ltb c.args.number 128 c.if-number-lt128.false)
    (next_call _ _ _ _ _ _ _ unary (stop_write _ _ _ _ _ _ _ c.from_residual-in_err-write_var.ensures.1 stop))

pub returns : goal.returns
returns g c =
    let bytes = c.bytes_needed-bytes.ensures in
    let unary = rw bytes at c.in_ok-write_unary-2.ensures.writes in
    let first = rw (bytes, number_below c.args.number c.requires) at c.in_ok-write_var.ensures.writes in
    let rest = rw bytes at c.write_rest.ensures in
    rw (le-ltb c.args.number 128 c.if-number-lt128.false)
    (next_call _ _ _ _ _ _ _ unary (next_write _ _ _ _ _ _ _ first rest))
