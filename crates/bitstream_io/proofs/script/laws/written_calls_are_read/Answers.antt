use Rattle.bitstream_io.proofs.ReadBackLemmas.{answers_back, place_back}
use Rattle.bitstream_io.proofs.script.laws.written_calls_are_read.Goals as goal

pub returns-clause-answers : goal.returns-clause-answers
returns-clause-answers c o calls len p more typed same = answers_back o more calls len p typed same

pub returns-clause-place : goal.returns-clause-place
returns-clause-place c o calls len p more typed same = place_back o more calls len p typed same
