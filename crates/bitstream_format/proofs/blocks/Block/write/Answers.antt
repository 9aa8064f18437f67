use Rattle.std.proofs.Common.{◌∙◌}
use Rattle.bitstream_io.proofs.WriteParts.{all_one}
use Rattle.bitstream_io.proofs.WriteSteps.{next_call, stop_call}
use Rattle.bitstream_format.proofs.blocks.Block.write.Goals as goal

pub returns-in_err-write_unsigned_var : goal.returns-in_err-write_unsigned_var
returns-in_err-write_unsigned_var g c = rw (← c.self.view_is)
    (stop_call _ _ _ _ _ _ _ c.from_residual.ensures.1
    (rw (c.len.ensures ∙ c.self.inside.bytes.ok.0) at (rw c.block_size.ensures at c.in_err-write_unsigned_var.ensures.writes)))

pub returns : goal.returns
returns g c = rw (← c.self.view_is)
    (next_call _ _ _ _ _ _ _
    (rw (c.len.ensures ∙ c.self.inside.bytes.ok.0) at (rw c.block_size.ensures at c.in_ok-write_unsigned_var.ensures.writes))
    (all_one _ _ _ _ _ (rw c.deref.ensures.value at c.write_bytes.ensures.writes)))
