use Rattle.std.proofs.Common.{◌<◌}
use Rattle.bitstream_io.proofs.ByteSteps.{few_byte_reads, then_number, then_bytes, bytes_end}
use Rattle.bitstream_callers.proofs.padded_port.PaddedPortFromByteStreamWith.from_reader.Goals as goal

pub returns-in_err-number : goal.returns-in_err-number
returns-in_err-number g c = search few_byte_reads depth 12

pub returns-in_err-skip : goal.returns-in_err-skip
returns-in_err-skip g c = search few_byte_reads depth 12

pub returns : goal.returns
returns g c =
    let number = rw c.in_ok-number.is at c.branch-number.type_inv in
    let below : c.in_ok-number.number < 65536 = number.1.1.1.1.0.1 in
    record {
      reads = then_number g.R.ByteRead.source.order 2 _ c.read.ensures.reads c.branch-number.ensures c.in_ok-number.is
          below (then_bytes _ c.skip.ensures.reads c.branch-skip.ensures c.in_ok-skip.is (bytes_end _ _));
    }
