use Rattle.bitstream_value.proofs.CheckedLemmas.{checked-kept, unsigned-held}
use Rattle.bitstream_value.proofs.checked.unsigned.CheckedUnsignedFixedCheckablePrimitive.read.Goals as goal

pub keep-requires : goal.keep-requires
keep-requires g c = unsigned-held _ _ _ g.U.UnsignedInteger.value c.read_unsigned_var.result c.read_unsigned_var.ensures.reads

pub returns : goal.returns
returns g c = record {
  reads = checked-kept c.args.count _ _ _ c.read_unsigned_var.result c.keep.result g.U.UnsignedInteger.value c.keep.ensures
      c.read_unsigned_var.ensures.reads;
}
