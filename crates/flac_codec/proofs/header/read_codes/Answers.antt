use Rattle.std.proofs.lemmas.Bool.{eq-eqb, ne_eqb}
use Rattle.bitstream_io.proofs.CallerLemmas.{next_own_read as next, exit_own_read as exit}
use Rattle.bitstream_io.proofs.OwnSteps.{own_end, if_own, else_own}
use Rattle.flac_codec.proofs.header.read_codes.Goals as goal

pub returns-in_err-sync-clause-reads : goal.returns-in_err-sync-clause-reads
returns-in_err-sync-clause-reads g c =
    exit _ c.from_residual.ensures.1 c.in_err-sync.ensures.reads

pub returns-then-sync-ne32764-clause-reads : goal.returns-then-sync-ne32764-clause-reads
returns-then-sync-ne32764-clause-reads g c =
    next _ c.in_ok-sync.ensures.reads (else_own _ _ _ (ne_eqb _ 0x7ffc c.if-sync-ne32764.true) (own_end _ _))

pub returns-in_err-variable-clause-reads : goal.returns-in_err-variable-clause-reads
returns-in_err-variable-clause-reads g c =
    next _ c.in_ok-sync.ensures.reads (if_own _ _ _ (eq-eqb _ 0x7ffc c.if-sync-ne32764.false) (exit _ c.from_residual-in_err-variable.ensures.1 c.in_err-variable.ensures.reads))

pub returns-in_err-block_size-clause-reads : goal.returns-in_err-block_size-clause-reads
returns-in_err-block_size-clause-reads g c =
    next _ c.in_ok-sync.ensures.reads (if_own _ _ _ (eq-eqb _ 0x7ffc c.if-sync-ne32764.false) (next _ c.in_ok-variable.ensures.reads (exit _ c.from_residual-in_err-block_size.ensures.1 c.in_err-block_size.ensures.reads)))

pub returns-in_err-sample_rate-clause-reads : goal.returns-in_err-sample_rate-clause-reads
returns-in_err-sample_rate-clause-reads g c =
    next _ c.in_ok-sync.ensures.reads (if_own _ _ _ (eq-eqb _ 0x7ffc c.if-sync-ne32764.false) (next _ c.in_ok-variable.ensures.reads (next _ c.in_ok-block_size.ensures.reads (exit _ c.from_residual-in_err-sample_rate.ensures.1 c.in_err-sample_rate.ensures.reads))))

pub returns-in_err-channels-clause-reads : goal.returns-in_err-channels-clause-reads
returns-in_err-channels-clause-reads g c =
    next _ c.in_ok-sync.ensures.reads (if_own _ _ _ (eq-eqb _ 0x7ffc c.if-sync-ne32764.false) (next _ c.in_ok-variable.ensures.reads (next _ c.in_ok-block_size.ensures.reads (next _ c.in_ok-sample_rate.ensures.reads (exit _ c.from_residual-in_err-channels.ensures.1 c.in_err-channels.ensures.reads)))))

pub returns-in_err-sample_size-clause-reads : goal.returns-in_err-sample_size-clause-reads
returns-in_err-sample_size-clause-reads g c =
    next _ c.in_ok-sync.ensures.reads (if_own _ _ _ (eq-eqb _ 0x7ffc c.if-sync-ne32764.false) (next _ c.in_ok-variable.ensures.reads (next _ c.in_ok-block_size.ensures.reads (next _ c.in_ok-sample_rate.ensures.reads (next _ c.in_ok-channels.ensures.reads (exit _ c.from_residual-in_err-sample_size.ensures.1 c.in_err-sample_size.ensures.reads))))))

pub returns-in_err-reserved-clause-reads : goal.returns-in_err-reserved-clause-reads
returns-in_err-reserved-clause-reads g c =
    next _ c.in_ok-sync.ensures.reads (if_own _ _ _ (eq-eqb _ 0x7ffc c.if-sync-ne32764.false) (next _ c.in_ok-variable.ensures.reads (next _ c.in_ok-block_size.ensures.reads (next _ c.in_ok-sample_rate.ensures.reads (next _ c.in_ok-channels.ensures.reads (next _ c.in_ok-sample_size.ensures.reads (exit _ c.from_residual-in_err-reserved.ensures.1 c.in_err-reserved.ensures.reads)))))))

pub returns-then-reserved-clause-reads : goal.returns-then-reserved-clause-reads
returns-then-reserved-clause-reads g c =
    next _ c.in_ok-sync.ensures.reads (if_own _ _ _ (eq-eqb _ 0x7ffc c.if-sync-ne32764.false) (next _ c.in_ok-variable.ensures.reads (next _ c.in_ok-block_size.ensures.reads (next _ c.in_ok-sample_rate.ensures.reads (next _ c.in_ok-channels.ensures.reads (next _ c.in_ok-sample_size.ensures.reads (next _ c.in_ok-reserved.ensures.reads (rw c.if-reserved.true (own_end _ _)))))))))

pub returns-clause-reads : goal.returns-clause-reads
returns-clause-reads g c =
    next _ c.in_ok-sync.ensures.reads (if_own _ _ _ (eq-eqb _ 0x7ffc c.if-sync-ne32764.false) (next _ c.in_ok-variable.ensures.reads (next _ c.in_ok-block_size.ensures.reads (next _ c.in_ok-sample_rate.ensures.reads (next _ c.in_ok-channels.ensures.reads (next _ c.in_ok-sample_size.ensures.reads (next _ c.in_ok-reserved.ensures.reads (rw c.if-reserved.false (own_end _ _)))))))))
