use Rattle.std.proofs.Common.{take, arith}
use Rattle.bitstream_stream.proofs.Reading.ReadsLemmas.{map_err}
use Rattle.bitstream_stream.proofs.WholeBytes.ByteReadsLemmas.{bytes_none, bytes_stop, byte_put}
use Rattle.bitstream_stream.proofs.bytes.byte_read.ByteRead.read_bytes.Goals as goal

pub loop-i-init : goal.loop-i-init
loop-i-init g c = bytes_none c.args.self.now

pub returns-in_err-byte : goal.returns-in_err-byte
returns-in_err-byte g c =
    record {
      reads = rw (map_err _ c.from_residual.result c.from_residual.ensures.1)
          (bytes_stop c.loop-i.i 1 _ (take c.loop-i.i c.loop-i.buf) _ c.args.self.now c.loop-i.self c.read.new.self
          (omega arith) c.loop-i.invariant c.in_err-byte.ensures.reads);
    }

pub loop-i-preserved : goal.loop-i-preserved
loop-i-preserved g c = byte_put c.loop-i.i c.loop-i.buf c.in_ok-byte.byte c.args.self.now c.loop-i.self c.read.new.self
    (omega arith) c.loop-i.invariant c.in_ok-byte.ensures.reads
