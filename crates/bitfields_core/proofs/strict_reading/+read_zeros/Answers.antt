use Rattle.std.proofs.Common.{◌≡◌, ◌≤◌, ◌+◌, ◌-◌, arith}
use Rattle.bitfields_core.proofs.PackingLemmas.{result_err}
use Rattle.bitfields_core.proofs.ZeroLemmas.{zeros, zeros_err, zeros_more, zeros_prefix_err, zeros_rest_err}
use Rattle.bitfields_core.proofs.strict_reading.+read_zeros.Goals as goal

pub returns-in_err-word : goal.returns-in_err-word
returns-in_err-word g t c =
    let le : c.args.bits ≤ 128 = omega arith in
    rw (result_err c.from_residual.result c.from_residual.ensures.1)
    (zeros_err g.R.BitRead.source.order le c.in_err-word.ensures.reads)

pub returns-then-bits-le128 : goal.returns-then-bits-le128
returns-then-bits-le128 g t c =
    let le : c.args.bits ≤ 128 = omega arith in
    zeros g.R.BitRead.source.order le c.in_ok-word.ensures.reads

pub returns-in_err-word-2 : goal.returns-in_err-word-2
returns-in_err-word-2 g t c =
    let le : 128 ≤ 128 = omega arith in
    let n = c.args.bits - 128 in
    let sum : 128 + n ≡ c.args.bits = omega arith in
    rw (result_err c.from_residual-in_err-word-2.result c.from_residual-in_err-word-2.ensures.1)
    (zeros_prefix_err 128 n sum (zeros_err g.R.BitRead.source.order le c.in_err-word-2.ensures.reads))

pub returns-in_err-rest : goal.returns-in_err-rest
returns-in_err-rest g t c =
    let le : 128 ≤ 128 = omega arith in
    let n = c.args.bits - 128 in
    let sum : 128 + n ≡ c.args.bits = omega arith in
    rw (result_err c.from_residual-in_err-rest.result c.from_residual-in_err-rest.ensures.1)
    (zeros_rest_err 128 n sum (zeros g.R.BitRead.source.order le c.in_ok-word-2.ensures.reads) c.in_err-rest.ensures)

pub returns : goal.returns
returns g t c =
    let le : 128 ≤ 128 = omega arith in
    let n = c.args.bits - 128 in
    let sum : 128 + n ≡ c.args.bits = omega arith in
    zeros_more 128 n sum (zeros g.R.BitRead.source.order le c.in_ok-word-2.ensures.reads) c.in_ok-rest.ensures
