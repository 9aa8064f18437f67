use Rattle.bitstream_stream.specs.Writing.WriteTable.{align}
use Rattle.std.proofs.Common.{[], ◌∷◌}
use Rattle.bitstream_stream.proofs.Writing.WriteParts.{all_stop}
use Rattle.bitstream_value.proofs.OwnLemmas.{is_error}
use Rattle.bitstream_value.proofs.PackIntoLemmas.{write_aligned, written_as}
use Rattle.bitstream_value.proofs.pack.write_whole.Goals as goal

pub returns-in_err-to_writer : goal.returns-in_err-to_writer
returns-in_err-to_writer g c =
    let K = g.W.BitWrite.sink in
    let es = g.T.ToBitStream.writes K.order c.args.value.now in
    record {
      writes = all_stop K es (align ∷ []) c.args.writer.now _ c.from_residual.result c.to_writer.new.writer
          (is_error _ _ c.from_residual.ensures.1)
          (written_as K c.requires.same _ c.requires.plain es _ _ _ c.in_err-to_writer.ensures.writes);
    }

pub returns : goal.returns
returns g c =
    let K = g.W.BitWrite.sink in
    let es = g.T.ToBitStream.writes K.order c.args.value.now in
    record {
      writes = write_aligned K es c.args.writer.now _ _ _
          (written_as K c.requires.same _ c.requires.plain es _ _ _ c.in_ok-to_writer.ensures.writes)
          c.byte_align.ensures.writes;
    }
