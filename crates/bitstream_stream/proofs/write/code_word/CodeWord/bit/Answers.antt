use Rattle.std.proofs.Common.{arith, refl}
use Rattle.bitstream_stream.proofs.Writing.CodeWordLemmas.{bit-at, code_bits-length}
use Rattle.bitstream_stream.proofs.write.code_word.CodeWord.bit.Goals as goal

pub overflow_sub-result : goal.overflow_sub-result
overflow_sub-result c =
    let size = code_bits-length c.args.self.now in
    let less = c.requires in
    omega (arith, size, less)

pub overflow_sub-result-2 : goal.overflow_sub-result-2
overflow_sub-result-2 c =
    let size = code_bits-length c.args.self.now in
    let less = c.requires in
    omega (arith, size, less)

pub returns : goal.returns
returns c = bit-at c.args.self.now c.args.at _ c.requires refl
