use Rattle.std.proofs.Common.{refl}
use Rattle.bitstream_stream.proofs.Shared.{exit_is}
use Rattle.bitstream_stream.proofs.write.writer.BitWriter.aligned_writer.Goals as goal

pub returns-in_err-byte_align : goal.returns-in_err-byte_align
returns-in_err-byte_align g c =
    rw (exit_is _ c.from_residual.ensures.1) (
      (refl, (λ w ok. cc), c.in_err-byte_align.ensures.writes),
      record { stream = tt; writes_back = tt },
    )

pub returns : goal.returns
returns g c = (
  (
    refl,
    (λ w ok. (
      c.byte_align.new.self,
      c.in_ok-byte_align.ensures.writes,
      record { port = refl; queue = refl; queued = refl; failed = refl },
    )),
    tt,
  ),
  record {
    stream = (c.byte_align.new.self, c.in_ok-byte_align.ensures.writes, c.lend.ensures.value);
    writes_back =
        tt;
  },
)
