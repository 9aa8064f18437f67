use Rattle.std.proofs.Common.{◌∙◌, ℕ, ap, subst}
use Rattle.std.specs.Prelude.{map}
use Rattle.flac_codec.specs.Channels.{channel_count}
use Rattle.flac_codec.specs.Frame.{frame_at, IsFoundIn}
use Rattle.flac_codec.proofs.EncodingLemmas.{frame-like}
use Rattle.flac_codec.proofs.encoder.encode_coded.Goals as goal

pub returns : goal.returns
returns c =
    let header = c.frame_header-header.result in
    let is = c.frame_header-header.ensures in
    let bytes = c.in_ok-bytes.bytes.items in
    let samples = map (λ channel. channel.items) c.args.channels.now in
    frame-like c.args.info.now header c.args.number bytes samples is.number (ap channel_count is.channels ∙ c.requires.count)
    is.rate is.width
    (subst (λ (n : ℕ). IsFoundIn (frame_at n) bytes (header, samples)) c.get.ensures.value c.in_ok-bytes.ensures)
