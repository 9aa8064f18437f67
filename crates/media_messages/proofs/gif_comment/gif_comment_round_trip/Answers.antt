-- Made by `./format` from formats/gif_comment.fields: edit that file and make this one anew.
use Rattle.media_messages.proofs.GifCommentLemmas.{gif_comment_goes, gif_comment_packs}
use Rattle.media_messages.proofs.gif_comment.gif_comment_round_trip.Goals as goal

pub returns-clause-back : goal.returns-clause-back
returns-clause-back c = λ o value at from more fits. (gif_comment_goes o value fits).back at from more

pub returns-clause-size : goal.returns-clause-size
returns-clause-size c = λ o value at fits. (gif_comment_packs o value fits).size at
