-- Made by `./format` from formats/flac_metadata.fields: edit that file and make this one anew.
use Rattle.media_messages.specs.FlacMetadata.{blocks_last, flac_block_here}
use Rattle.bitstream_io.specs.Codec.{and_then}
use Rattle.bitstream_io.specs.ReadTable.{unsigned_decoder, bytes_decoder}
use Rattle.bitstream_io.specs.NonZero.{non_zero_decoder}
use Rattle.bitstream_format.proofs.UpToLastLemmas.{last-begin, last-end, last-push, last-refused, last-stop, last-too_long}
use Rattle.std.proofs.Common.{Ok, Err, refl, sym, arith}
use Rattle.bitstream_io.proofs.EachLemmas.{grown_made, own_map_err}
use Rattle.media_messages.proofs.flac_metadata.read_blocks.Goals as goal

pub loop-init : goal.loop-init
loop-init g c = last-begin _ blocks_last _ c.new-found.ensures.items

pub returns-in_err-item : goal.returns-in_err-item
returns-in_err-item g c = rw (own_map_err _ c.from_residual.result c.from_residual.ensures.1) (last-stop
    (flac_block_here g.R.BitRead.source.order) blocks_last c.loop.counter c.loop.invariant _ _ c.loop-test.true
    (grown_made _ (Err _) c.in_err-item.ensures (λ error is. rw is refl)))

pub returns-in_err-push : goal.returns-in_err-push
unfolding and_then unsigned_decoder bytes_decoder non_zero_decoder
returns-in_err-push g c = rw (own_map_err _ c.from_residual-in_err-push.result c.from_residual-in_err-push.ensures.1)
    (last-refused (flac_block_here g.R.BitRead.source.order) blocks_last c.loop.counter c.loop.invariant _ _
    c.loop-test.true (grown_made _ (Ok _) c.in_ok-item.ensures (λ error is. absurd is)) refl _ refl)

pub returns-then-last : goal.returns-then-last
returns-then-last g c = last-end (flac_block_here g.R.BitRead.source.order) blocks_last c.loop.counter c.loop.invariant
    _ _ c.loop-test.true (grown_made _ (Ok _) c.in_ok-item.ensures (λ error is. absurd is)) c.in_ok-push.ensures.items
    (rw (sym c.blocks_last-last.ensures) c.if-last.true)

pub loop-preserved : goal.loop-preserved
unfolding and_then unsigned_decoder bytes_decoder non_zero_decoder
loop-preserved g c = last-push (flac_block_here g.R.BitRead.source.order) blocks_last c.loop.counter c.loop.invariant _
    _ c.loop-test.true (grown_made _ (Ok _) c.in_ok-item.ensures (λ error is. absurd is)) refl
    c.in_ok-push.ensures.items (rw (sym c.blocks_last-last.ensures) c.if-last.false)

pub returns : goal.returns
returns g c = last-too_long (flac_block_here g.R.BitRead.source.order) blocks_last c.loop.counter c.loop.invariant _ _
    (omega (arith, c.loop-test.false, c.loop.auto.counter-end)) c.fail.ensures refl
