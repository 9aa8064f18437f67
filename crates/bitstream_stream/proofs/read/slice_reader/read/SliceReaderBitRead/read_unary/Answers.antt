use Rattle.std.proofs.Common.{arith, ◌<◌, ◌^◌, ◌+◌, subst, ap, Ok}
use Rattle.std.specs.Prelude.{◌==◌}
use Rattle.bitstream_stream.specs.Reading.Reads.{Reads}
use Rattle.bitstream_stream.specs.Reading.ReadTable.{unary_decoder}
use Rattle.bitstream_stream.specs.Reading.MemorySource.{memory_source}
use Rattle.bitstream_stream.proofs.Reading.MemoryLemmas.{run_read}
use Rattle.bitstream_stream.proofs.read.slice_reader.read.SliceReaderBitRead.read_unary.Goals as goal

pub returns-then-run-self-lt64-clause-reads : goal.returns-then-run-self-lt64-clause-reads
returns-then-run-self-lt64-clause-reads g c =
    let o = g.E.Endianness.order in
    let r = c.run_in_window-run.result in
    let small : r < 2 ^ 32 = omega (arith, c.run_in_window-run.ensures.most) in
    subst (λ b. Reads (memory_source o) (unary_decoder b) c.args.self.now (Ok r) c.go_to.new.self)
    (ap (λ n. n == 1) c.BITS-stop.ensures)
    (run_read o _ r c.args.self.now c.go_to.new.self c.if-not-self.true
    (c.run_in_window-run.ensures.run c.if-run-self-lt64.true) small (c.go_to.ensures (r + 1) (omega arith)))
