use Rattle.bitstream_io.proofs.CallerLemmas.{Reads-and_then-ok, arith, branches, exit, few_reads, if_at_most, one_shl, reads, rules, sum_below}
use Rattle.bitstream_io.proofs.golomb.read_ue.Goals as goal

pub returns-in_err-zeros-clause-reads : goal.returns-in_err-zeros-clause-reads
returns-in_err-zeros-clause-reads g c = search few_reads depth 12

pub returns-then-zeros-gt31-clause-reads : goal.returns-then-zeros-gt31-clause-reads
returns-then-zeros-gt31-clause-reads g c = search (reads, branches, c.in_ok-zeros.ensures.reads) depth 12

pub returns-in_err-rest-clause-reads : goal.returns-in_err-rest-clause-reads
returns-in_err-rest-clause-reads g c =
    Reads-and_then-ok _ _ c.in_ok-zeros.ensures.reads (if_at_most _ _ _ 31 c.if-zeros-gt31.false
    (exit _ _ c.from_residual-in_err-rest.ensures.1 c.in_err-rest.ensures.reads))

pub overflow_add-result : goal.overflow_add-result
overflow_add-result g c =
    let small = sum_below 32 c.in_ok-zeros.zeros _ (omega arith) c.in_ok-rest.ensures.fits in search (rules, small)

pub returns-clause-reads : goal.returns-clause-reads
returns-clause-reads g c =
    rw (one_shl c.in_ok-zeros.zeros 32 (omega arith))
    (search (reads, branches, c.in_ok-zeros.ensures.reads, c.in_ok-rest.ensures.reads) depth 12)

pub returns-clause-below : goal.returns-clause-below
returns-clause-below g c = sum_below 32 c.in_ok-zeros.zeros _ (omega arith) c.in_ok-rest.ensures.fits
