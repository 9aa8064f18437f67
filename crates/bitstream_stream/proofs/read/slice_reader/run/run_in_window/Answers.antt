use Rattle.bitstream_stream.proofs.Reading.MemoryRuns.{run_in_eight}
use Rattle.bitstream_stream.proofs.read.slice_reader.run.run_in_window.Goals as goal

pub returns-clause-run : goal.returns-clause-run
returns-clause-run g c = λ within.
    run_in_eight g.E.Endianness.order c.args.stop c.args.bytes.now c.args.bit c.load_eight.result _ c.requires.few c.requires.eight
    c.load_eight.ensures within (c.lead_behind.ensures.run within)
