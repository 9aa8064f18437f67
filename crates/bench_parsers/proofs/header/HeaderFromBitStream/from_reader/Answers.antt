use Rattle.bitstream_io.proofs.CallerLemmas.{plainly_read, Reads-and_then-ok as next, Reads-pure, exit}
use Rattle.bench_parsers.proofs.header.HeaderFromBitStream.from_reader.Goals as goal

pub returns-in_err-read : goal.returns-in_err-read
returns-in_err-read g c = record {
  reads = plainly_read (exit _ _ c.from_residual.ensures.1 c.in_err-read.ensures.reads);
}

pub returns-in_err-read-2 : goal.returns-in_err-read-2
returns-in_err-read-2 g c = record {
  reads = plainly_read (next _ _ c.in_ok-read.ensures.reads (exit _ _ c.from_residual-in_err-read-2.ensures.1
      c.in_err-read-2.ensures.reads));
}

pub returns-in_err-read-3 : goal.returns-in_err-read-3
returns-in_err-read-3 g c = record {
  reads = plainly_read (next _ _ c.in_ok-read.ensures.reads (next _ _ c.in_ok-read-2.ensures.reads (exit _ _
      c.from_residual-in_err-read-3.ensures.1 c.in_err-read-3.ensures.reads)));
}

pub returns-in_err-read-4 : goal.returns-in_err-read-4
returns-in_err-read-4 g c = record {
  reads = plainly_read (next _ _ c.in_ok-read.ensures.reads (next _ _ c.in_ok-read-2.ensures.reads (next _ _
      c.in_ok-read-3.ensures.reads (exit _ _ c.from_residual-in_err-read-4.ensures.1 c.in_err-read-4.ensures.reads))));
}

pub returns : goal.returns
returns g c = record {
  reads = plainly_read (next _ _ c.in_ok-read.ensures.reads (next _ _ c.in_ok-read-2.ensures.reads (next _ _
      c.in_ok-read-3.ensures.reads (next _ _ c.in_ok-read-4.ensures.reads (Reads-pure _ _)))));
}
