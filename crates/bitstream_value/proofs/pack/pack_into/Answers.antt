use Rattle.std.proofs.Common.{subst, sym, Ok, Err}
use Rattle.bitstream_value.specs.PackInto.{PacksInto}
use Rattle.bitstream_value.proofs.PackIntoLemmas.{packs_done, packs_error}
use Rattle.bitstream_value.proofs.pack.pack_into.Goals as goal

pub returns-in-Ok : goal.returns-in-Ok
returns-in-Ok g c =
    let o = g.E.Endianness.order in
    let es = g.T.ToBitStream.writes o c.args.value.now in
    subst (λ target. PacksInto o es c.args.buffer.ghost_name c.args.buffer.now (Ok target)) (sym c.into_writer.ensures)
    (packs_done o c.over-writer.result c.over-writer.ensures es c.write_whole.new.writer c.in-Ok.ensures.writes)

pub returns-in-Err : goal.returns-in-Err
returns-in-Err g c =
    let o = g.E.Endianness.order in
    let es = g.T.ToBitStream.writes o c.args.value.now in
    subst (λ error. PacksInto o es c.args.buffer.ghost_name c.args.buffer.now (Err error)) (sym c.misfit_or.ensures)
    (packs_error o c.over-writer.result c.over-writer.ensures es c.write_whole.new.writer c.in-Err.error
    c.in-Err.ensures.writes)
