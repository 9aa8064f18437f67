use Rattle.std.proofs.Common.{arith, nat_eq, ◌≡◌, ◌%◌}
use Rattle.bitstream_count.specs.Codec.{pure}
use Rattle.bitstream_stream.proofs.Reading.ReadsLemmas.{Reads-same, Reads-and_then-ok, Reads-pure, exit}
use Rattle.bitstream_stream.proofs.Reading.SignedLemmas.{unsigned-below}
use Rattle.bitstream_stream.proofs.Reading.TableLemmas.{bit-unsigned}
use Rattle.bitstream_stream.proofs.read.reader.BitReaderBitRead.read_bit.Goals as goal

pub returns-in_err-bit-clause-reads : goal.returns-in_err-bit-clause-reads
returns-in_err-bit-clause-reads g c =
    Reads-same (bit-unsigned g.E.Endianness.order 8 (omega arith))
    (exit (λ n. pure (nat_eq n 1)) c.from_residual.result c.from_residual.ensures.1 c.in_err-bit.ensures.reads)

pub returns-clause-reads : goal.returns-clause-reads
returns-clause-reads g c =
    let small = unsigned-below _ _ _ _ c.in_ok-bit.ensures.reads in
    let same : c.in_ok-bit.bit % 2 ≡ c.in_ok-bit.bit = omega arith in
    rw same (Reads-same (bit-unsigned g.E.Endianness.order 8 (omega arith))
    (Reads-and_then-ok _ (λ n. pure (nat_eq n 1)) c.in_ok-bit.ensures.reads (Reads-pure _ _)))

pub returns-in_err-bit-clause-asks : goal.returns-in_err-bit-clause-asks
returns-in_err-bit-clause-asks g c = c.in_err-bit.ensures.asks

pub returns-clause-asks : goal.returns-clause-asks
returns-clause-asks g c = c.in_ok-bit.ensures.asks
