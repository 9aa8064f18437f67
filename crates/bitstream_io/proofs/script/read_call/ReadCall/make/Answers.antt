use Rattle.bitstream_io.proofs.ReadScriptLemmas.{answered_as, answered_map, answered_ok, answered_stops}
use Rattle.bitstream_io.specs.declared.script.answers.Answer.TheVariants as variant
use Rattle.bitstream_io.proofs.script.read_call.ReadCall.make.Goals as goal

pub returns-in-Bit : goal.returns-in-Bit
returns-in-Bit g c = record {
  reads = rw c.in-Bit.is (answered_as variant.Bit c.map.result c.map.ensures.cases c.read_bit.ensures.reads);
}

pub returns-in-U8 : goal.returns-in-U8
returns-in-U8 g c = record {
  reads = rw c.in-U8.is (answered_map variant.U8 (λ a. a) c.read_unsigned_var.result c.map-in-U8.result c.map-in-U8.ensures.cases c.read_unsigned_var.ensures.reads);
}

pub returns-in-U16 : goal.returns-in-U16
returns-in-U16 g c = record {
  reads = rw c.in-U16.is (answered_map variant.U16 (λ a. a) c.read_unsigned_var-in-U16.result c.map-in-U16.result c.map-in-U16.ensures.cases c.read_unsigned_var-in-U16.ensures.reads);
}

pub returns-in-U32 : goal.returns-in-U32
returns-in-U32 g c = record {
  reads = rw c.in-U32.is (answered_map variant.U32 (λ a. a) c.read_unsigned_var-in-U32.result c.map-in-U32.result c.map-in-U32.ensures.cases c.read_unsigned_var-in-U32.ensures.reads);
}

pub returns-in-U64 : goal.returns-in-U64
returns-in-U64 g c = record {
  reads = rw c.in-U64.is (answered_map variant.U64 (λ a. a) c.read_unsigned_var-in-U64.result c.map-in-U64.result c.map-in-U64.ensures.cases c.read_unsigned_var-in-U64.ensures.reads);
}

pub returns-in-U128 : goal.returns-in-U128
returns-in-U128 g c = record {
  reads = rw c.in-U128.is (answered_map variant.U128 (λ a. a) c.read_unsigned_var-in-U128.result c.map-in-U128.result c.map-in-U128.ensures.cases c.read_unsigned_var-in-U128.ensures.reads);
}

pub returns-in-I8 : goal.returns-in-I8
returns-in-I8 g c = record {
  reads = rw c.in-I8.is (answered_map variant.I8 (λ a. a) c.read_signed_var.result c.map-in-I8.result c.map-in-I8.ensures.cases c.read_signed_var.ensures.reads);
}

pub returns-in-I16 : goal.returns-in-I16
returns-in-I16 g c = record {
  reads = rw c.in-I16.is (answered_map variant.I16 (λ a. a) c.read_signed_var-in-I16.result c.map-in-I16.result c.map-in-I16.ensures.cases c.read_signed_var-in-I16.ensures.reads);
}

pub returns-in-I32 : goal.returns-in-I32
returns-in-I32 g c = record {
  reads = rw c.in-I32.is (answered_map variant.I32 (λ a. a) c.read_signed_var-in-I32.result c.map-in-I32.result c.map-in-I32.ensures.cases c.read_signed_var-in-I32.ensures.reads);
}

pub returns-in-I64 : goal.returns-in-I64
returns-in-I64 g c = record {
  reads = rw c.in-I64.is (answered_map variant.I64 (λ a. a) c.read_signed_var-in-I64.result c.map-in-I64.result c.map-in-I64.ensures.cases c.read_signed_var-in-I64.ensures.reads);
}

pub returns-in-I128 : goal.returns-in-I128
returns-in-I128 g c = record {
  reads = rw c.in-I128.is (answered_map variant.I128 (λ a. a) c.read_signed_var-in-I128.result c.map-in-I128.result c.map-in-I128.ensures.cases c.read_signed_var-in-I128.ensures.reads);
}

pub returns-in-Unary0 : goal.returns-in-Unary0
returns-in-Unary0 g c = record {
  reads = rw c.in-Unary0.is (answered_as variant.Unary c.map-in-Unary0.result c.map-in-Unary0.ensures.cases c.read_unary.ensures.reads);
}

pub returns-in-Unary1 : goal.returns-in-Unary1
returns-in-Unary1 g c = record {
  reads = rw c.in-Unary1.is (answered_as variant.Unary c.map-in-Unary1.result c.map-in-Unary1.ensures.cases c.read_unary-in-Unary1.ensures.reads);
}

pub returns-in-Vbr4 : goal.returns-in-Vbr4
returns-in-Vbr4 g c = record {
  reads = rw c.in-Vbr4.is (answered_map variant.Vbr (λ a. a) c.read_unsigned_vbr.result c.map-in-Vbr4.result c.map-in-Vbr4.ensures.cases c.read_unsigned_vbr.ensures.reads);
}

pub returns-in-Vbr8 : goal.returns-in-Vbr8
returns-in-Vbr8 g c = record {
  reads = rw c.in-Vbr8.is (answered_map variant.Vbr (λ a. a) c.read_unsigned_vbr-in-Vbr8.result c.map-in-Vbr8.result c.map-in-Vbr8.ensures.cases c.read_unsigned_vbr-in-Vbr8.ensures.reads);
}

pub returns-in-AnyVbr4 : goal.returns-in-AnyVbr4
returns-in-AnyVbr4 g c = record {
  reads = rw c.in-AnyVbr4.is (answered_map variant.Vbr (λ a. a) c.read_unsigned_vbr_any.result c.map-in-AnyVbr4.result c.map-in-AnyVbr4.ensures.cases c.read_unsigned_vbr_any.ensures.reads);
}

pub returns-in-AnyVbr8 : goal.returns-in-AnyVbr8
returns-in-AnyVbr8 g c = record {
  reads = rw c.in-AnyVbr8.is (answered_map variant.Vbr (λ a. a) c.read_unsigned_vbr_any-in-AnyVbr8.result c.map-in-AnyVbr8.result c.map-in-AnyVbr8.ensures.cases c.read_unsigned_vbr_any-in-AnyVbr8.ensures.reads);
}

pub returns-in-SignedVbr4 : goal.returns-in-SignedVbr4
returns-in-SignedVbr4 g c = record {
  reads = rw c.in-SignedVbr4.is (answered_map variant.SignedVbr (λ a. a) c.read_signed_vbr.result c.map-in-SignedVbr4.result c.map-in-SignedVbr4.ensures.cases c.read_signed_vbr.ensures.reads);
}

pub returns-in-SignedVbr8 : goal.returns-in-SignedVbr8
returns-in-SignedVbr8 g c = record {
  reads = rw c.in-SignedVbr8.is (answered_map variant.SignedVbr (λ a. a) c.read_signed_vbr-in-SignedVbr8.result c.map-in-SignedVbr8.result c.map-in-SignedVbr8.ensures.cases c.read_signed_vbr-in-SignedVbr8.ensures.reads);
}

pub returns-in_err-bytes-in-Bytes : goal.returns-in_err-bytes-in-Bytes
returns-in_err-bytes-in-Bytes g c = record {
  reads = rw c.in-Bytes.is
      (answered_stops variant.Bytes c.from_residual.result
      c.from_residual.ensures.1 c.in_err-bytes-in-Bytes.ensures.reads);
}

pub returns-in_ok-bytes-in-Bytes : goal.returns-in_ok-bytes-in-Bytes
returns-in_ok-bytes-in-Bytes g c = record {
  reads = rw (
    c.in-Bytes.is,
    c.new.ensures,
  ) (answered_ok variant.Bytes c.in_ok-bytes-in-Bytes.ensures.reads);
}

pub returns-in_err-skip-in-Skip : goal.returns-in_err-skip-in-Skip
returns-in_err-skip-in-Skip g c = record {
  reads = rw c.in-Skip.is
      (answered_stops (λ _. variant.Done) c.from_residual-in_err-skip-in-Skip.result
      c.from_residual-in_err-skip-in-Skip.ensures.1 c.in_err-skip-in-Skip.ensures.reads);
}

pub returns-in_ok-skip-in-Skip : goal.returns-in_ok-skip-in-Skip
returns-in_ok-skip-in-Skip g c = record {
  reads = rw c.in-Skip.is
      (answered_ok (λ _. variant.Done) c.in_ok-skip-in-Skip.ensures.reads);
}

pub returns-in-Align : goal.returns-in-Align
returns-in-Align g c = record { reads = rw c.in-Align.is (answered_ok (λ _. variant.Done) c.byte_align.ensures.reads) }
