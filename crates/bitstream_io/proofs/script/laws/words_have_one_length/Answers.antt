use Rattle.bitstream_io.proofs.ScriptLemmas.{size-call}
use Rattle.bitstream_io.proofs.script.laws.words_have_one_length.Goals as goal

pub returns : goal.returns
returns c o p call len = size-call o p len call
