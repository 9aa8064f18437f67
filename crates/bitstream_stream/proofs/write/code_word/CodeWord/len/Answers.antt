use Rattle.std.proofs.Common.{sym}
use Rattle.bitstream_stream.proofs.Writing.CodeWordLemmas.{code_bits-length}
use Rattle.bitstream_stream.proofs.write.code_word.CodeWord.len.Goals as goal

pub returns-clause-len : goal.returns-clause-len
returns-clause-len c = sym (code_bits-length c.args.self.now)
