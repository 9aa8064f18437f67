use Rattle.bitstream_io.proofs.ReadsLemmas.{Reads-and_then-ok, exit}
use Rattle.bitstream_format.proofs.varint.read_varint.Goals as goal

pub returns-in_err-length : goal.returns-in_err-length
returns-in_err-length g c = exit _ _ c.from_residual.ensures.1 c.in_err-length.ensures.reads

pub returns : goal.returns
returns g c = Reads-and_then-ok _ _ c.in_ok-length.ensures.reads
    (rw c.varint_width.ensures at c.read_var.ensures.reads)
