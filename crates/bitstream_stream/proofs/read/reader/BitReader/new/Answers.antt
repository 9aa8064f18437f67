use Rattle.std.proofs.Common.{ap}
use Rattle.bitstream_order.specs.Port.{source_state}
use Rattle.bitstream_stream.proofs.Reading.ReaderLemmas.{start_state}
use Rattle.bitstream_stream.proofs.read.reader.BitReader.new.Goals as goal

pub returns-clause-state : goal.returns-clause-state
returns-clause-state g c =
    let made = c.new.ensures in
    start_state _ (source_state g.R.Source.stream c.new.result) _ _ _ _
    (ap g.R.Source.stream.remaining made.stream) (ap g.R.Source.stream.references made.stream) made.fetched made.refusals
    c.new-2.ensures
