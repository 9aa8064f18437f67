-- Made by `./format` from formats/gif_comment.fields: edit that file and make this one anew.
-- A written `GifComment` is read back, and its number of bits.
use Rattle.media_messages.specs.GifComment.{gif_comment_decoder, gif_comment_writes, gif_comment_size, gif_comment_format, gif_comment_bits, Fits}
use Rattle.media_messages.specs.declared.gif_comment.GifComment.{GifComment}
use Rattle.std.proofs.Common.{◌≡◌, ◌++◌, ◌∷◌, [], Ok, refl}
use Rattle.bitstream_io.proofs.CallerLemmas.{RoundTrip, Packs}
use Rattle.bitstream_io.specs.Callers.{Order, High, align, write_sequence}

-- a written value is read back
pub gif_comment_goes : (o : Order) (value : GifComment) → Fits value
    → RoundTrip (gif_comment_decoder o) (gif_comment_writes o value) (Ok value)
gif_comment_goes = gif_comment_format.round_trip

-- each write is accepted, and the value's size is the number of bits written
pub gif_comment_packs : (o : Order) (value : GifComment) → Fits value
    → Packs (gif_comment_writes o value) (gif_comment_size o value)
gif_comment_packs = gif_comment_format.packs

-- the bits, of which a search is to see no part
pub told : (value : GifComment)
    → write_sequence (gif_comment_writes High value ++ align ∷ []) 0 ≡ gif_comment_bits value
unfolding gif_comment_bits
told value = refl
