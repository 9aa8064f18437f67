use Rattle.std.specs.Prelude.{map}
use Rattle.bitstream_io.proofs.CallerLemmas.{part_go, part_stop}
use Rattle.flac_codec.specs.Channels.{joined, first_width}
use Rattle.flac_codec.proofs.ChannelLemmas.{subframe-on_failed}
use Rattle.flac_codec.proofs.ResultLemmas.{fine_after_part, fine_still_part, seen_is, stored}
use Rattle.flac_codec.proofs.channels.read_pair.Goals as goal

pub returns-in_err-first : goal.returns-in_err-first
returns-in_err-first g c =
    let first = rw c.first_width.ensures at c.in_err-first.ensures in
    part_stop _ first (seen_is _ c.in_err-first.field-0.0 c.from_residual.result c.from_residual.ensures.1)

pub returns-in_err-second : goal.returns-in_err-second
returns-in_err-second g c =
    let first = rw c.first_width.ensures at c.in_ok-first.ensures in
    let second = rw c.second_width.ensures at c.in_err-second.ensures in
    part_go _ first (part_stop _ second
    (seen_is _ c.in_err-second.field-0.0 c.from_residual-in_err-second.result c.from_residual-in_err-second.ensures.1))

pub returns : goal.returns
returns g c =
    let first = rw c.first_width.ensures at c.in_ok-first.ensures in
    let second = rw c.second_width.ensures at c.in_ok-second.ensures in
    let o = g.R.BitRead.source.order in
    let fine = fine_still_part (fine_after_part (subframe-on_failed o (first_width c.args.channels c.args.width) c.args.block_size) first) second in
    part_go _ first (part_go _ second
    (stored (λ found. map (λ channel. channel.items) found.items)
    (joined c.args.channels c.in_ok-first.first.items c.in_ok-second.second.items) c.joined.result fine c.joined.ensures))
