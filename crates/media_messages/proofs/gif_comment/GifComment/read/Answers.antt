-- Made by `./format` from formats/gif_comment.fields: edit that file and make this one anew.
use Rattle.std.proofs.Common.{refl}
use Rattle.bitstream_io.proofs.CallerLemmas.{next_grown_const, exit_grown_const}
use Rattle.bitstream_io.proofs.GrowsLemmas.{go_grown, stop_grown, grown_end}
use Rattle.media_messages.proofs.gif_comment.GifComment.read.Goals as goal

pub returns-in_err-read_const : goal.returns-in_err-read_const
returns-in_err-read_const g c = exit_grown_const _ _ c.from_residual.ensures.1 c.in_err-read_const.ensures.reads refl

pub returns-in_err-read_const-2 : goal.returns-in_err-read_const-2
returns-in_err-read_const-2 g c = next_grown_const _ _ c.in_ok-read_const.ensures.reads (exit_grown_const _ _
    c.from_residual-in_err-read_const-2.ensures.1 c.in_err-read_const-2.ensures.reads refl)

pub returns-in_err-text : goal.returns-in_err-text
returns-in_err-text g c = next_grown_const _ _ c.in_ok-read_const.ensures.reads (next_grown_const _ _
    c.in_ok-read_const-2.ensures.reads (stop_grown _ c.in_err-text.ensures c.from_residual-in_err-text.ensures.1))

pub returns : goal.returns
returns g c = next_grown_const _ _ c.in_ok-read_const.ensures.reads (next_grown_const _ _
    c.in_ok-read_const-2.ensures.reads (go_grown _ c.in_ok-text.ensures (grown_end _ _)))
