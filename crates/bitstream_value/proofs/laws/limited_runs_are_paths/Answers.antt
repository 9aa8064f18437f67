use Rattle.bitstream_value.proofs.LimitedLemmas.{limited-path, limited-paths}
use Rattle.bitstream_value.proofs.laws.limited_runs_are_paths.Goals as goal

pub returns-clause-word : goal.returns-clause-word
returns-clause-word c = limited-path

pub returns-clause-path : goal.returns-clause-path
returns-clause-path c = limited-paths
