use Rattle.bitstream_value.proofs.WordsLemmas.{bit-lacks, bit-pushed}
use Rattle.bitstream_value.proofs.huffman.tree.words.GatheredPutBit.put_bit.Goals as goal

pub returns-then-len-eq-MOST : goal.returns-then-len-eq-MOST
returns-then-len-eq-MOST c = record {
  writes = bit-lacks c.args.one _ _ c.len.ensures.len c.if-len-eq-MOST.true;
}

pub returns : goal.returns
returns c = record {
  writes = bit-pushed c.args.one _ _ _ c.len.ensures.len c.if-len-eq-MOST.false c.push.ensures;
}
