use borrow.Author.Rules.{sfits_of}
use Rattle.std.specs.Int.{w8, w16, w32, w64, w128}
use Rattle.bitstream_stream.specs.Writing.WriteTable.{signed, signed_vbr}
use Rattle.bitstream_io.proofs.ScriptLemmas.{of_value}
use Rattle.bitstream_io.proofs.script.write_call.WriteCall.make.Goals as goal

pub returns-in-Bit : goal.returns-in-Bit
returns-in-Bit g c = record { writes = rw c.in-Bit.is c.write_bit.ensures.writes }

pub returns-in-U8 : goal.returns-in-U8
returns-in-U8 g c = record { writes = rw c.in-U8.is c.write_unsigned_var.ensures.writes }

pub returns-in-U16 : goal.returns-in-U16
returns-in-U16 g c = record { writes = rw c.in-U16.is c.write_unsigned_var-in-U16.ensures.writes }

pub returns-in-U32 : goal.returns-in-U32
returns-in-U32 g c = record { writes = rw c.in-U32.is c.write_unsigned_var-in-U32.ensures.writes }

pub returns-in-U64 : goal.returns-in-U64
returns-in-U64 g c = record { writes = rw c.in-U64.is c.write_unsigned_var-in-U64.ensures.writes }

pub returns-in-U128 : goal.returns-in-U128
returns-in-U128 g c = record { writes = rw c.in-U128.is c.write_unsigned_var-in-U128.ensures.writes }

pub returns-in-I8 : goal.returns-in-I8
returns-in-I8 g c =
    record {
      writes = rw c.in-I8.is (of_value g.W.BitWrite.sink (signed g.W.BitWrite.sink.order 8 c.in-I8.bits) _ _ _ w8
          c.in-I8.value c.write_signed_var.ensures.writes (search sfits_of));
    }

pub returns-in-I16 : goal.returns-in-I16
returns-in-I16 g c =
    record {
      writes = rw c.in-I16.is (of_value g.W.BitWrite.sink (signed g.W.BitWrite.sink.order 16 c.in-I16.bits) _ _ _
          w16 c.in-I16.value c.write_signed_var-in-I16.ensures.writes (search sfits_of));
    }

pub returns-in-I32 : goal.returns-in-I32
returns-in-I32 g c =
    record {
      writes = rw c.in-I32.is (of_value g.W.BitWrite.sink (signed g.W.BitWrite.sink.order 32 c.in-I32.bits) _ _ _
          w32 c.in-I32.value c.write_signed_var-in-I32.ensures.writes (search sfits_of));
    }

pub returns-in-I64 : goal.returns-in-I64
returns-in-I64 g c =
    record {
      writes = rw c.in-I64.is (of_value g.W.BitWrite.sink (signed g.W.BitWrite.sink.order 64 c.in-I64.bits) _ _ _
          w64 c.in-I64.value c.write_signed_var-in-I64.ensures.writes (search sfits_of));
    }

pub returns-in-I128 : goal.returns-in-I128
returns-in-I128 g c = record {
  writes = rw c.in-I128.is
      (of_value g.W.BitWrite.sink (signed g.W.BitWrite.sink.order 128 c.in-I128.bits) _ _ _ w128 c.in-I128.value
      c.write_signed_var-in-I128.ensures.writes (search sfits_of));
}

pub returns-in-Unary0 : goal.returns-in-Unary0
returns-in-Unary0 g c = record { writes = rw c.in-Unary0.is c.write_unary.ensures.writes }

pub returns-in-Unary1 : goal.returns-in-Unary1
returns-in-Unary1 g c = record { writes = rw c.in-Unary1.is c.write_unary-in-Unary1.ensures.writes }

pub returns-in-Vbr4 : goal.returns-in-Vbr4
returns-in-Vbr4 g c = record { writes = rw c.in-Vbr4.is c.write_unsigned_vbr.ensures.writes }

pub returns-in-Vbr8 : goal.returns-in-Vbr8
returns-in-Vbr8 g c = record { writes = rw c.in-Vbr8.is c.write_unsigned_vbr-in-Vbr8.ensures.writes }

pub returns-in-SignedVbr4 : goal.returns-in-SignedVbr4
returns-in-SignedVbr4 g c = record {
  writes = rw c.in-SignedVbr4.is
      (of_value g.W.BitWrite.sink (signed_vbr g.W.BitWrite.sink.order 4) _ _ _ w64 c.in-SignedVbr4.value
      c.write_signed_vbr.ensures.writes (search sfits_of));
}

pub returns-in-SignedVbr8 : goal.returns-in-SignedVbr8
returns-in-SignedVbr8 g c = record {
  writes = rw c.in-SignedVbr8.is
      (of_value g.W.BitWrite.sink (signed_vbr g.W.BitWrite.sink.order 8) _ _ _ w64 c.in-SignedVbr8.value
      c.write_signed_vbr-in-SignedVbr8.ensures.writes (search sfits_of));
}

pub returns-in-Bytes : goal.returns-in-Bytes
returns-in-Bytes g c = record { writes = rw (c.in-Bytes.is, ← c.as_slice.ensures) c.write_bytes.ensures.writes }

pub returns-in-Pad : goal.returns-in-Pad
returns-in-Pad g c = record { writes = rw c.in-Pad.is c.pad.ensures.writes }

pub returns-in-Align : goal.returns-in-Align
returns-in-Align g c = record { writes = rw c.in-Align.is c.byte_align.ensures.writes }
