use Rattle.bitstream_count.specs.Codec.{fail}
use Rattle.bitstream_stream.proofs.Reading.ReadsLemmas.{Reads-same, Reads-and_then-ok, exit}
use Rattle.bitstream_stream.proofs.Reading.SignedLemmas.{Reads-fine, Reads-fail}
use Rattle.bitstream_stream.proofs.Reading.TableLemmas.{none-then, unsigned-on_failed}
use Rattle.std.proofs.Common.{refl}
use Rattle.bitstream_value.proofs.refuse.refuse_read.Goals as goal

pub returns-in_err-read_unsigned_var-clause-reads : goal.returns-in_err-read_unsigned_var-clause-reads
returns-in_err-read_unsigned_var-clause-reads g c =
    Reads-same (none-then g.R.BitRead.source.order 8 (fail c.args.error) refl)
    (exit (λ _. fail c.args.error) c.from_residual.result c.from_residual.ensures.1
    c.in_err-read_unsigned_var.ensures.reads)

pub returns-clause-reads : goal.returns-clause-reads
returns-clause-reads g c =
    let fine = Reads-fine (unsigned-on_failed g.R.BitRead.source.order 8 0) c.in_ok-read_unsigned_var.ensures.reads in
    Reads-same (none-then g.R.BitRead.source.order 8 (fail c.args.error) refl)
    (Reads-and_then-ok _ (λ _. fail c.args.error) c.in_ok-read_unsigned_var.ensures.reads
    (Reads-fail c.args.error _ fine c.requires))
