use Rattle.std.proofs.Common.{◌∙◌, ◌++◌, ◌∷◌, [], ℤ, Vec, Global, ap, sym}
use Rattle.std.specs.Prelude.{map}
use Rattle.std.proofs.lemmas.List.{map-append}
use Rattle.flac_codec.specs.File.{channels_of}
use Rattle.flac_codec.proofs.FileLemmas.{channels-more, channels-none}
use Rattle.flac_codec.proofs.file.join_channels.Goals as goal

pub loop-number-init : goal.loop-number-init
loop-number-init c = ap (map (λ channel. channel.items)) c.new-channels.ensures.items ∙ sym (channels-none _)

pub loop-number-preserved : goal.loop-number-preserved
loop-number-preserved c =
    let items = λ (channel : Vec ℤ Global). channel.items in
    let blocks = map (λ (block : Vec (Vec ℤ Global) Global). map items block.items) c.args.blocks.now in
    let channel = c.in_ok-channel.channel in
    ap (map items) c.in_ok-push.ensures.items ∙ map-append items c.loop-number.channels.items (channel ∷ [])
    ∙ ap (λ found. found ++ channel.items ∷ []) c.loop-number.invariant
    ∙ ap (λ found. channels_of blocks c.loop-number.number ++ found ∷ []) c.in_ok-channel.ensures
    ∙ sym (channels-more blocks c.loop-number.number)
