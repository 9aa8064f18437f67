use Rattle.std.proofs.Common.{arith}
use Rattle.bitstream_stream.proofs.Reading.MemoryWords.{few_taken}
use Rattle.bitstream_stream.proofs.read.slice_reader.SliceReader.take_few.Goals as goal

pub returns : goal.returns
returns g c =
    few_taken g.E.Endianness.order c.args.bits c.load.result c.middle-value.result c.args.self.now c.go_on.new.self
    c.requires.few c.load.ensures c.middle-value.ensures c.go_on.ensures

pub middle-value-requires : goal.middle-value-requires
middle-value-requires g c = omega (arith, c.requires.few, c.args.self.now.few)
