use Rattle.std.proofs.Common.{◌∷◌, [], ◌++◌}
use Rattle.bitstream_io.specs.Sink.{WritesAll}
use Rattle.bitstream_io.specs.WriteTable.{align}
use Rattle.bitstream_io.proofs.WriteParts.{all_append, all_one, all_stop}
use Rattle.bitfields_core.specs.Packing.{field_writes}
use Rattle.bitfields_core.proofs.PackingLemmas.{result_err, WritesBits-packed}
use Rattle.bitfields_core.proofs.packing.pack_to.Goals as goal

pub returns-in_err-append_fields : goal.returns-in_err-append_fields
returns-in_err-append_fields g c =
    let K = g.W.BitWrite.sink in
    let fields = c.args.layout.now in
    let vs = c.args.values.now in
    let calls : WritesAll K (field_writes K.order fields vs ++ align ∷ []) c.args.writer.now c.from_residual.result
    c.append_fields.new.writer =
    rw (← c.fields.ensures.fields) (all_stop K _ _ _ _ _ _ (result_err c.from_residual.result c.from_residual.ensures.1)
    c.in_err-append_fields.ensures) in
    record { calls = calls; adds = WritesBits-packed K fields vs _ _ _ c.fields.ensures.is_layout c.requires.fit calls }

pub returns : goal.returns
returns g c =
    let K = g.W.BitWrite.sink in
    let fields = c.args.layout.now in
    let vs = c.args.values.now in
    let calls : WritesAll K (field_writes K.order fields vs ++ align ∷ []) c.args.writer.now c.byte_align.result
    c.byte_align.new.self =
    rw (← c.fields.ensures.fields) (all_append K _ _ _ _ _ _ c.in_ok-append_fields.ensures
    (all_one K _ _ _ _ c.byte_align.ensures.writes)) in
    record { calls = calls; adds = WritesBits-packed K fields vs _ _ _ c.fields.ensures.is_layout c.requires.fit calls }
