use Rattle.bitstream_io.proofs.CallerLemmas.{plainly_written}
use Rattle.bitstream_io.proofs.WriteSteps.{next_write, stop_write}
use Rattle.bench_parsers.proofs.header.HeaderToBitStream.to_writer.Goals as goal

pub returns-in_err-write : goal.returns-in_err-write
returns-in_err-write g c = record {
  writes = plainly_written _ _ _ _ _ (stop_write _ _ _ _ _ _ _ c.from_residual.ensures.1 c.in_err-write.ensures.writes);
}

pub returns-in_err-write-2 : goal.returns-in_err-write-2
returns-in_err-write-2 g c = record {
  writes = plainly_written _ _ _ _ _ (next_write _ _ _ _ _ _ _ c.in_ok-write.ensures.writes (stop_write _ _ _ _ _ _ _
      c.from_residual-in_err-write-2.ensures.1 c.in_err-write-2.ensures.writes));
}

pub returns-in_err-write-3 : goal.returns-in_err-write-3
returns-in_err-write-3 g c = record {
  writes = plainly_written _ _ _ _ _ (next_write _ _ _ _ _ _ _ c.in_ok-write.ensures.writes (next_write _ _ _ _ _ _ _
      c.in_ok-write-2.ensures.writes (stop_write _ _ _ _ _ _ _ c.from_residual-in_err-write-3.ensures.1
      c.in_err-write-3.ensures.writes)));
}

pub returns : goal.returns
returns g c = record {
  writes = plainly_written _ _ _ _ _ (next_write _ _ _ _ _ _ _ c.in_ok-write.ensures.writes (next_write _ _ _ _ _ _ _
      c.in_ok-write-2.ensures.writes (next_write _ _ _ _ _ _ _ c.in_ok-write-3.ensures.writes
      c.write-4.ensures.writes)));
}
