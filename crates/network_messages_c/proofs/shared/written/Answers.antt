-- Made by `./format --c`, which prints the same for each crate: edit tools/describing/c/shared.py.
-- A value that fits and has room is written whole.
use Rattle.bitstream_io.specs.SliceMut.{slice_mut_stream}
use Rattle.bitstream_io.specs.Writer.{writer_sink}
use Rattle.bitstream_io.proofs.CallerLemmas.{align_with_room, calls_with_room}
use Rattle.bitstream_io.proofs.PackIntoLemmas.{packs_done, write_aligned, written_as}
use Rattle.network_messages_c.proofs.SharedLemmas.{begins, has_room}
use Rattle.network_messages_c.proofs.shared.written.Goals as goal

pub unreachable-requires : goal.unreachable-requires
unreachable-requires g c =
    let o = g.E.Endianness.order in
    let es = g.T.ToBitStream.writes o c.args.value.now in
    let K = writer_sink slice_mut_stream o in
    let calls = written_as K c.requires.same _ c.requires.plain es _ _ _ c.in-Ok.ensures.writes in
    let done = align_with_room o es c.over-writer.result c.over-writer.ensures c.requires.accepted
    (has_room es _ c.requires.room) _ _ _ calls c.in-Err-byte_align.ensures.writes in
    cc

pub unreachable-requires-in-Err : goal.unreachable-requires-in-Err
unreachable-requires-in-Err g c =
    let o = g.E.Endianness.order in
    let es = g.T.ToBitStream.writes o c.args.value.now in
    let K = writer_sink slice_mut_stream o in
    let calls = written_as K c.requires.same _ c.requires.plain es _ _ _ c.in-Err.ensures.writes in
    let done = calls_with_room o es c.over-writer.result c.over-writer.ensures c.requires.accepted
    (has_room es _ c.requires.room) _ _ calls in
    cc

pub returns : goal.returns
returns g c =
    let o = g.E.Endianness.order in
    let es = g.T.ToBitStream.writes o c.args.value.now in
    let K = writer_sink slice_mut_stream o in
    let calls = written_as K c.requires.same _ c.requires.plain es _ _ _ c.in-Ok.ensures.writes in
    let whole = write_aligned K es _ _ _ _ calls c.in-Ok-byte_align.ensures.writes in
    let packed = packs_done o c.over-writer.result c.over-writer.ensures es c.byte_align.new.self whole in
    rw c.into_writer.ensures (record { name = packed.first.reached; begins = begins o _ _ packed.packed packed.first.bytes })
