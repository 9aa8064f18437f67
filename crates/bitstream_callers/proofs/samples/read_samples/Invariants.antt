use Rattle.bitstream_io.proofs.CallerLemmas.{ItemsRead, unsigned_decoder}
use Rattle.bitstream_callers.proofs.samples.read_samples.Given as goal

-- the samples so far were read
abbrev pub invariant-loop : goal.invariant-loop
invariant-loop g l =
    let K = g.R.BitRead.source in
    ItemsRead K (unsigned_decoder K.order 16 12) l.counter l.initial.reader l.samples.items l.reader
