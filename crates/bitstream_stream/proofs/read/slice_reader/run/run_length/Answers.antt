use Rattle.std.proofs.Common.{arith, sym, ◌∙◌, ap, ◌+◌, ◌-◌}
use Rattle.std.proofs.lemmas.List.{take_rest}
use Rattle.bitstream_count.specs.Unary.{lead}
use Rattle.bitstream_number.specs.Word.{bits}
use Rattle.bitstream_stream.proofs.Reading.MemoryRuns.{first_ends, first_passes}
use Rattle.bitstream_stream.proofs.read.slice_reader.run.run_length.Goals as goal

pub returns-then-lead-bit : goal.returns-then-lead-bit
returns-then-lead-bit g c =
    first_ends g.E.Endianness.order c.args.stop c.args.bytes.now c.args.bit _ _ c.requires.few (c.requires.some (omega arith))
    c.rest.ensures c.run_length-lead.ensures (omega arith)

pub returns : goal.returns
returns g c =
    c.run_from-2.ensures
    ∙ ap (λ xs. (8 - c.args.bit) + lead c.args.stop (bits g.E.Endianness.order xs)) (take_rest c.args.bytes.now 1)
    ∙ sym (first_passes g.E.Endianness.order c.args.stop c.args.bytes.now c.args.bit _ _ c.requires.few
    (c.requires.some (omega arith)) c.rest.ensures c.run_length-lead.ensures (omega arith))
