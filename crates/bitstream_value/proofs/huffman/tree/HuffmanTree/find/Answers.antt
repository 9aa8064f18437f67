use Rattle.std.proofs.Common.{arith}
use Rattle.bitstream_value.specs.HuffmanTree.{nodes_of}
use Rattle.bitstream_value.proofs.WalkLemmas.{lacks-more}
use Rattle.bitstream_value.proofs.huffman.tree.HuffmanTree.find.Goals as goal

pub loop-place-preserved : goal.loop-place-preserved
loop-place-preserved g c = lacks-more g.S.PartialEq.eq c.args.symbol (nodes_of c.args.self.now) c.args.low
    c.loop-place.place c.loop-place.invariant c.has.ensures c.if-has.false

pub returns : goal.returns
returns g c = λ k after below. let past = c.loop-place-test.false in c.loop-place.invariant k after (omega arith)
