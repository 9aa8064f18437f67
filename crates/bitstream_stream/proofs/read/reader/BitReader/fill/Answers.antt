use Rattle.std.proofs.Common.{rules, ◌≡◌, length}
use Rattle.bitstream_stream.proofs.Reading.BytesLemmas.{bytes-failed, bytes-nothing}
use Rattle.bitstream_stream.proofs.read.reader.BitReader.fill.Goals as goal

pub returns-then-self-clause-reads : goal.returns-then-self-clause-reads
returns-then-self-clause-reads g c = bytes-failed _ _ _ c.if-self.true

pub returns-then-is_empty-clause-reads : goal.returns-then-is_empty-clause-reads
returns-then-is_empty-clause-reads g c = let none : length c.args.buf.now ≡ 0 = search rules in
    bytes-nothing _ _ _ c.if-self.false none
