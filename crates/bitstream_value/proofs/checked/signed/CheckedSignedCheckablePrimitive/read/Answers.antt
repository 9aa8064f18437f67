use Rattle.bitstream_value.proofs.CheckedLemmas.{signed_checked-kept, signed-held}
use Rattle.bitstream_value.proofs.checked.signed.CheckedSignedCheckablePrimitive.read.Goals as goal

pub keep-requires : goal.keep-requires
keep-requires g c = signed-held _ _ _ g.S.Numeric.integer c.read_signed_counted.result c.read_signed_counted.ensures.reads

pub returns : goal.returns
returns g c = record {
  reads = signed_checked-kept c.args.count _ _ _ c.read_signed_counted.result c.keep.result g.S.Numeric.integer c.keep.ensures
      c.read_signed_counted.ensures.reads;
}
