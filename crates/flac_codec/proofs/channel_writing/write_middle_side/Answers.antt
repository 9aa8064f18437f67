use Rattle.std.proofs.Common.{◌≡◌, ◌∙◌, ◌∷◌, [], ap, inr, length, refl, sym}
use Rattle.bitstream_io.specs.Callers.{OutOfMemory}
use Rattle.flac_codec.specs.Channels.{less, more, pair_decoder}
use Rattle.flac_codec.specs.declared.header.Channels.TheVariants.{MidSide}
use Rattle.flac_codec.proofs.StereoLemmas.{middles-fit, sides-fit}
use Rattle.flac_codec.proofs.WrittenLemmas.{first_stopped, middle-written, part_stopped}
use Rattle.flac_codec.proofs.channel_writing.write_middle_side.Goals as goal

pub returns-in_err-side : goal.returns-in_err-side
returns-in_err-side g c =
    let K = g.W.BitWrite.sink in
    let left = c.args.left.now in
    let right = c.args.right.now in
    let decoder = pair_decoder K.order MidSide c.args.width (length left) in
    let value = left ∷ right ∷ [] in
    part_stopped decoder value _ OutOfMemory c.from_residual.ensures.1 (inr refl)

pub returns-in_err-middle : goal.returns-in_err-middle
returns-in_err-middle g c =
    let K = g.W.BitWrite.sink in
    let left = c.args.left.now in
    let right = c.args.right.now in
    let decoder = pair_decoder K.order MidSide c.args.width (length left) in
    let value = left ∷ right ∷ [] in
    part_stopped decoder value _ OutOfMemory c.from_residual-in_err-middle.ensures.1 (inr refl)

pub write_subframe-requires-clause-fit : goal.write_subframe-requires-clause-fit
write_subframe-requires-clause-fit g c =
    rw (c.as_slice-2.ensures.value, c.in_ok-middle.ensures, c.as_slice.ensures.value, c.in_ok-side.ensures) (middles-fit c.args.width c.requires.some c.requires.within c.args.left.now c.args.right.now c.requires.fit_left c.requires.fit_right)

pub returns-in_err-write_subframe : goal.returns-in_err-write_subframe
returns-in_err-write_subframe g c =
    let K = g.W.BitWrite.sink in
    let left = c.args.left.now in
    let right = c.args.right.now in
    let decoder = pair_decoder K.order MidSide c.args.width (length left) in
    let value = left ∷ right ∷ [] in
    part_stopped decoder value _ _ c.from_residual-in_err-write_subframe.ensures.1 (first_stopped _ c.in_err-write_subframe.ensures)

pub write_subframe-requires-2-clause-fit : goal.write_subframe-requires-2-clause-fit
write_subframe-requires-2-clause-fit g c =
    rw (c.as_slice-3.ensures.value, c.in_ok-side.ensures) (sides-fit c.args.width c.requires.some c.requires.within c.args.left.now c.args.right.now c.requires.fit_left c.requires.fit_right)

pub returns : goal.returns
returns g c =
    let left = c.args.left.now in
    let right = c.args.right.now in
    let side : c.as_slice.result.now ≡ less 0 left right = c.as_slice.ensures.value ∙ c.in_ok-side.ensures in
    let again : c.as_slice-3.result.now ≡ less 0 left right = c.as_slice-3.ensures.value ∙ c.in_ok-side.ensures in
    let middle : c.as_slice-2.result.now ≡ more 1 right c.as_slice-3.result.now =
    c.as_slice-2.ensures.value ∙ c.in_ok-middle.ensures ∙ ap (more 1 right) (side ∙ sym again) in
    middle-written c.args.width left right c.as_slice-2.result.now c.as_slice-3.result.now c.write_subframe-2.result
    c.requires.within c.requires.same c.requires.fit_left c.requires.fit_right again middle c.in_ok-write_subframe.ensures
    c.write_subframe-2.ensures
