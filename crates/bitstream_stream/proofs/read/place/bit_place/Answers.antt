use Rattle.std.proofs.Common.{rules, ap, ◌∙◌, ◌≡◌, to_z, of_z}
use Rattle.std.specs.Int.{w128}
use Rattle.bitstream_stream.specs.Reading.Place.{place_of}
use Rattle.bitstream_stream.proofs.Reading.PlaceLemmas.{place-is}
use Rattle.bitstream_stream.proofs.read.place.bit_place.Goals as goal

pub returns : goal.returns
returns c =
    let kept : to_z w128 (of_z w128 c.meant.result) ≡ c.meant.result = search rules in
    c.ok.ensures.value ∙ place-is _ _ c.try_from.ensures ∙ ap place_of (kept ∙ c.meant.ensures)
