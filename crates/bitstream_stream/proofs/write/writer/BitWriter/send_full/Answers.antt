use Rattle.std.proofs.Common.{refl}
use Rattle.bitstream_stream.proofs.Writing.CodeWrites.{bits-sent, bits-refused}
use Rattle.bitstream_stream.proofs.write.writer.BitWriter.send_full.Goals as goal

pub returns-in-Ok-clause-writes : goal.returns-in-Ok-clause-writes
returns-in-Ok-clause-writes g c x full =
    bits-sent g.W.Target.stream g.E.Endianness.order _ _ c.args.byte x c.requires full c.in-Ok.ensures refl c.requires

pub returns-in-Err-clause-writes : goal.returns-in-Err-clause-writes
returns-in-Err-clause-writes g c x full =
    bits-refused g.W.Target.stream g.E.Endianness.order _ _ c.args.byte x c.requires full _ _ _ c.refuse.ensures.answer
    c.in-Err.ensures c.refuse.ensures.fails
