use Rattle.std.proofs.Common.{◌≡◌, ◌∷◌, [], ap, arith, inr, length, refl, subst}
use Rattle.bitstream_io.specs.Callers.{OutOfMemory}
use Rattle.flac_codec.specs.Channels.{joined, less, pair_decoder}
use Rattle.flac_codec.specs.Written.{WritesPart}
use Rattle.flac_codec.specs.declared.header.Channels.TheVariants.{LeftSide}
use Rattle.flac_codec.proofs.StereoLemmas.{combined-length, right-back, sides-fit}
use Rattle.flac_codec.proofs.WrittenLemmas.{all_wide, both-written, encoded_first, first_stopped, part_stopped}
use Rattle.flac_codec.proofs.channel_writing.write_left_side.Goals as goal

pub returns-in_err-side : goal.returns-in_err-side
returns-in_err-side g c =
    let K = g.W.BitWrite.sink in
    let left = c.args.left.now in
    let right = c.args.right.now in
    let decoder = pair_decoder K.order LeftSide c.args.width (length left) in
    let value = left ∷ right ∷ [] in
    part_stopped decoder value _ OutOfMemory c.from_residual.ensures.1 (inr refl)

pub returns-in_err-write_subframe : goal.returns-in_err-write_subframe
returns-in_err-write_subframe g c =
    let K = g.W.BitWrite.sink in
    let left = c.args.left.now in
    let right = c.args.right.now in
    let decoder = pair_decoder K.order LeftSide c.args.width (length left) in
    let value = left ∷ right ∷ [] in
    part_stopped decoder value _ _ c.from_residual-in_err-write_subframe.ensures.1 (first_stopped _ c.in_err-write_subframe.ensures)

pub write_subframe-requires-2-clause-fit : goal.write_subframe-requires-2-clause-fit
write_subframe-requires-2-clause-fit g c =
    rw (c.as_slice.ensures.value, c.in_ok-side.ensures) (sides-fit c.args.width c.requires.some c.requires.within c.args.left.now c.args.right.now c.requires.fit_left c.requires.fit_right)

pub returns : goal.returns
returns g c =
    let K = g.W.BitWrite.sink in
    let left = c.args.left.now in
    let right = c.args.right.now in
    let decoder = pair_decoder K.order LeftSide c.args.width (length left) in
    let value = left ∷ right ∷ [] in
    let size : length (less 0 left right) ≡ length left = combined-length _ left right c.requires.same in
    let wide = all_wide c.args.width left (omega (arith, c.requires.within)) c.requires.fit_left in
    let wide_right = all_wide c.args.width right (omega (arith, c.requires.within)) c.requires.fit_right in
    let second = rw (c.as_slice.ensures.value, c.in_ok-side.ensures, size) at c.write_subframe-2.ensures in
    subst (λ v. WritesPart K decoder v c.args.writer.now c.write_subframe-2.result c.write_subframe-2.new.writer)
    (ap (λ ys. left ∷ ys ∷ []) (right-back left right c.requires.same wide wide_right))
    (both-written (joined LeftSide) _ (encoded_first c.in_ok-write_subframe.ensures) second)
