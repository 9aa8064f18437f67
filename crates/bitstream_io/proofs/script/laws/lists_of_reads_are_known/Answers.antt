use Rattle.bitstream_io.proofs.ReadScriptLemmas.{sure_of}
use Rattle.bitstream_io.proofs.script.laws.lists_of_reads_are_known.Goals as goal

pub returns : goal.returns
returns g c calls old new answers bytes ends free fine known each =
    sure_of g.R.BitRead.source ends calls old answers new each bytes fine known free
