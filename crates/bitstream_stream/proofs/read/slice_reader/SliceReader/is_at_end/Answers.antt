use Rattle.std.proofs.Common.{◌≡◌, ◌↔◌, IsTrue, length}
use Rattle.bitstream_stream.proofs.Reading.MemoryLemmas.{left_known, end_known, end_of_all}
use Rattle.bitstream_stream.proofs.read.slice_reader.SliceReader.is_at_end.Goals as goal

pub returns-clause-left : goal.returns-clause-left
returns-clause-left g c = λ fine.
    left_known g.E.Endianness.order c.args.self.now (λ n. IsTrue c.is_empty.result ↔ (n ≡ 0)) fine
    (end_known (length c.args.self.now.bytes.now) c.args.self.now.bit _ c.args.self.now.few c.is_empty.ensures)

pub returns-clause-all : goal.returns-clause-all
returns-clause-all g c =
    end_of_all c.args.self.now.all.now c.args.self.now.bytes.now c.args.self.now.bit _ c.args.self.now.tail
    c.args.self.now.some c.args.self.now.few c.is_empty.ensures
