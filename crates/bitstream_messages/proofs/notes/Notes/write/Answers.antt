-- Made by `./format` from formats/notes.fields: edit that file and make this one anew.
use Rattle.std.proofs.Common.{◌∙◌}
use Rattle.bitstream_io.proofs.OwnLemmas.{is_error}
use Rattle.bitstream_io.proofs.WriteParts.{all_append, all_none, all_stop}
use Rattle.bitstream_io.proofs.WriteSteps.{next_write, stop_write}
use Rattle.bitstream_messages.proofs.notes.Notes.write.Goals as goal

pub returns-in_err-write : goal.returns-in_err-write
returns-in_err-write g c = rw (← c.self.view_is) (stop_write _ _ _ _ _ _ _ c.from_residual.ensures.1
    c.in_err-write.ensures.writes)

pub returns-in_err-write-2 : goal.returns-in_err-write-2
returns-in_err-write-2 g c = rw (← c.self.view_is) (next_write _ _ _ _ _ _ _ c.in_ok-write.ensures.writes (stop_write _
    _ _ _ _ _ _ c.from_residual-in_err-write-2.ensures.1 (rw (c.len.ensures ∙ c.self.inside.levels.ok.0) at
    c.in_err-write-2.ensures.writes)))

pub returns-in_err-write_levels : goal.returns-in_err-write_levels
returns-in_err-write_levels g c = rw (← c.self.view_is) (next_write _ _ _ _ _ _ _ c.in_ok-write.ensures.writes
    (next_write _ _ _ _ _ _ _ (rw (c.len.ensures ∙ c.self.inside.levels.ok.0) at c.in_ok-write-2.ensures.writes)
    (all_stop _ _ _ _ _ _ _ (is_error _ _ c.from_residual-in_err-write_levels.ensures.1) (rw c.deref.ensures.value at
    c.in_err-write_levels.ensures))))

pub returns : goal.returns
returns g c = rw (← c.self.view_is) (next_write _ _ _ _ _ _ _ c.in_ok-write.ensures.writes (next_write _ _ _ _ _ _ _ (rw
    (c.len.ensures ∙ c.self.inside.levels.ok.0) at c.in_ok-write-2.ensures.writes) (all_append _ _ _ _ _ _ _ (rw
    c.deref.ensures.value at c.in_ok-write_levels.ensures) (all_none _ _))))
