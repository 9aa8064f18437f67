use Rattle.std.proofs.Common.{◌≡◌, ◌∙◌, ◌++◌, ℤ, Ok, Vec, Global, ap}
use Rattle.std.specs.Prelude.{map}
use Rattle.flac_codec.specs.File.{file_at}
use Rattle.flac_codec.proofs.FileLemmas.{file-found}
use Rattle.flac_codec.proofs.filing.encode_file.Goals as goal

pub returns : goal.returns
returns c =
    let info = c.stream_info_of-info in
    let start = c.in_ok-bytes.bytes.items in
    let frames = c.in_ok-frames.frames.items in
    let channels = map (λ (channel : Vec ℤ Global). channel.items) c.args.channels.now in
    let whole : c.extend_from_slice.new.self.items ≡ start ++ frames =
    c.in_ok-extend_from_slice.ensures.items ∙ ap (λ xs. start ++ xs) c.as_slice.ensures.value in
    ap file_at whole
    ∙ file-found info.result start frames channels c.in_ok-bytes.ensures (c.in_ok-frames.ensures info.result info.ensures.format)
    info.ensures.count
    ∙ ap (λ header. Ok (header, channels)) info.ensures.header
