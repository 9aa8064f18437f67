use Rattle.bitstream_value.proofs.TreeLemmas.{paths_apart, path-reads, path-taken}
use Rattle.bitstream_value.proofs.laws.paths_are_read.Goals as goal

pub returns-clause-apart : goal.returns-clause-apart
returns-clause-apart g c = paths_apart

pub returns-clause-back : goal.returns-clause-back
returns-clause-back g c = path-reads

pub returns-clause-taken : goal.returns-clause-taken
returns-clause-taken g c = λ t p bits n answer e. let k = path-taken t p bits n answer e in
    (k.there, (k.symbol, k.answer, k.path))
