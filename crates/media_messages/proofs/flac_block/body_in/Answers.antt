-- Made by `./format` from formats/flac_block.fields: edit that file and make this one anew.
use Rattle.media_messages.specs.FlacBlock.{body_read, body_ended}
use Rattle.bitstream_format.proofs.WithinLemmas.{within-ok, within-err}
use Rattle.media_messages.specs.declared.flac_block.FlacBlockError.TheVariants.{Reader, OtherSize}
use Rattle.std.proofs.Common.{true, false, refl, sym}
use Rattle.bitstream_io.proofs.CallerLemmas.{inl, slice_ends}
use Rattle.bitstream_io.specs.Callers.{High}
use Rattle.media_messages.proofs.flac_block.body_in.Goals as goal

pub returns-then-is_at_end : goal.returns-then-is_at_end
returns-then-is_at_end c = inl (sym (within-ok OtherSize (λ error. Reader error) body_ended {e = body_read High
    c.args.number c.args.size} c.over-inside.ensures.state c.in-Ok.found true c.in-Ok.ensures
    c.if-is_at_end.ensures.left))

pub returns-else-is_at_end : goal.returns-else-is_at_end
returns-else-is_at_end c = inl (sym (within-ok OtherSize (λ error. Reader error) body_ended {e = body_read High
    c.args.number c.args.size} c.over-inside.ensures.state c.in-Ok.found false c.in-Ok.ensures
    c.if-is_at_end.ensures.left))

pub returns-in-Err : goal.returns-in-Err
returns-in-Err c = rw c.body_ended.ensures (within-err OtherSize (λ error. Reader error) body_ended {e = body_read High
    c.args.number c.args.size} c.over-inside.ensures.state slice_ends refl refl c.in-Err.ensures)
