use Rattle.bitstream_io.proofs.CallerLemmas.{plainly_written}
use Rattle.bitstream_callers.proofs.picture.CountedBytesToBitStream.to_writer.Goals as goal

pub returns : goal.returns
returns g c = record { writes = plainly_written _ _ _ _ _ (rw (c.deref.ensures.value, c.self.view_is) at c.write_counted_bytes.ensures) }
