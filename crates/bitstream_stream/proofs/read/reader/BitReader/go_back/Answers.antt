use Rattle.std.proofs.Common.{rules, ◌≡◌, sym, ap, ◌∙◌, to_z, of_z, w64}
use Rattle.std.specs.declared.io.traits.SeekFrom.TheVariants.{End}
use Rattle.bitstream_stream.specs.Reading.Place.{bit_meant, place_of}
use Rattle.bitstream_stream.proofs.Reading.SeekLemmas.{round_trip, none_back}
use Rattle.bitstream_stream.proofs.read.reader.BitReader.go_back.Goals as goal

pub returns-in-Some : goal.returns-in-Some
returns-in-Some g c =
    let kept : to_z w64 (of_z w64 c.args.back) ≡ c.args.back = search rules in
    round_trip c.in_ok-end.ensures (ap (λ n. place_of (bit_meant c.in_ok-end.end 0 (End n))) (sym kept)
    ∙ sym c.in-Some.ensures) c.go_to.ensures

pub returns-in-None : goal.returns-in-None
returns-in-None g c =
    let kept : to_z w64 (of_z w64 c.args.back) ≡ c.args.back = search rules in
    none_back c.in_ok-end.ensures (ap (λ n. place_of (bit_meant c.in_ok-end.end 0 (End n))) (sym kept)
    ∙ sym c.in-None.ensures) c.fail.ensures
