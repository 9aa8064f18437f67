-- Made by `./format` from formats/gif_comment.fields: edit that file and make this one anew.
use Rattle.media_messages.proofs.gif_comment.GifCommentFromBitStreamUsing.from_reader.Goals as goal

pub returns : goal.returns
returns g c = record { reads = c.read.ensures }
