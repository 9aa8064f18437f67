use Rattle.std.proofs.Common.{◌≡◌, ◌∙◌, ap, arith, w64}
use Rattle.std.proofs.lemmas.Int.{to_z-of_z}
use Rattle.std.proofs.lemmas.Nat.{one_shl}
use Rattle.bitstream_io.specs.Word.{zig}
use Rattle.bitstream_io.proofs.WriteSteps.{next_call, stop_call}
use Rattle.flac_codec.proofs.rice.write_rice.Goals as goal

pub returns-in_err-write_unary : goal.returns-in_err-write_unary
returns-in_err-write_unary g c =
    let shl = one_shl c.args.parameter 64 (omega (arith, c.requires.few)) in
    let place : c.place_of-place.result ≡ zig c.args.value =
    c.place_of-place.ensures ∙ ap zig (to_z-of_z w64 c.args.value c.ranges.value) in
    let unary = rw (shl, place) at c.in_err-write_unary.ensures.writes in
    stop_call _ _ _ _ _ _ _ c.from_residual.ensures.1 unary

pub returns : goal.returns
returns g c =
    let shl = one_shl c.args.parameter 64 (omega (arith, c.requires.few)) in
    let place : c.place_of-place.result ≡ zig c.args.value =
    c.place_of-place.ensures ∙ ap zig (to_z-of_z w64 c.args.value c.ranges.value) in
    let unary = rw (shl, place) at c.in_ok-write_unary.ensures.writes in
    let low = rw (shl, place) at c.write_var.ensures.writes in
    next_call _ _ _ _ _ _ _ unary low
