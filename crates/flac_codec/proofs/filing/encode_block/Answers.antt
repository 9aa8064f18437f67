use Rattle.std.proofs.Common.{◌≡◌, ◌∙◌, ℤ, List, Vec, Global, ap, drop, length, subst, sym, take}
use Rattle.std.specs.Prelude.{map}
use Rattle.std.specs.List.{All}
use Rattle.bitstream_io.specs.Callers.{FitsSignedBits}
use Rattle.flac_codec.specs.Frame.{frame_at, IsFoundIn}
use Rattle.flac_codec.proofs.FileLemmas.{All-unmap, block-found, new_header, parts-fit, parts-whole}
use Rattle.flac_codec.proofs.filing.encode_block.Goals as goal

pub encode_frame-requires-clause-whole : goal.encode_frame-requires-clause-whole
encode_frame-requires-clause-whole c =
    let P = λ (xs : List ℤ). length xs ≡ c.args.size in
    rw c.as_slice-2.ensures.value (All-unmap P (λ (channel : Vec ℤ Global). channel.items) c.in_ok-block.block.items
    (subst (All P) (sym c.in_ok-block.ensures) (parts-whole c.args.start c.args.size c.args.channels.now c.requires.there)))

pub encode_frame-requires-clause-fit : goal.encode_frame-requires-clause-fit
encode_frame-requires-clause-fit c =
    let P = All (FitsSignedBits c.args.sample_size) in
    rw c.as_slice-2.ensures.value (All-unmap P (λ (channel : Vec ℤ Global). channel.items) c.in_ok-block.block.items
    (subst (All P) (sym c.in_ok-block.ensures)
    (parts-fit c.args.sample_size c.args.start c.args.size c.args.channels.now c.requires.fit)))

pub returns : goal.returns
returns c =
    let bytes = c.in_ok-bytes.bytes.items in
    let count = length c.args.channels.now in
    let coding = c.best_channels-coding.result in
    let items = λ (channel : Vec ℤ Global). channel.items in
    let same = ap (map items) c.as_slice-2.ensures.value ∙ c.in_ok-block.ensures in
    block-found c.args.sample_size count c.args.size c.args.number coding bytes
    (map (λ (channel : Vec ℤ Global). take c.args.size (drop c.args.start channel.items)) c.args.channels.now)
    c.best_channels-coding.ensures.count
    (subst (λ (xs : List (List ℤ)). IsFoundIn (frame_at c.args.sample_size) bytes (new_header c.args.size coding c.args.number, xs))
    same c.in_ok-bytes.ensures)
