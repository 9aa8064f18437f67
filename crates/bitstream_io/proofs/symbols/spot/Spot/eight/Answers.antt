use Rattle.std.proofs.Common.{◌≡◌, ◌+◌, ◌-◌, ◌/◌, ◌∙◌, ap, arith, drop, take}
use Rattle.bitstream_number.specs.Word.{bits}
use Rattle.bitstream_io.proofs.symbols.spot.Spot.eight.Goals as goal

pub returns : goal.returns
returns g c =
    let o = g.E.Endianness.order in
    let first = c.args.self.now.place / 8 in
    let rest = drop first c.args.self.now.bytes.now in
    let eight : first + 8 - first ≡ 8 = omega arith in
    record {
      within = omega arith;
      word = c.of_bytes.ensures.word ∙ ap (bits o) (c.copy_from_slice.ensures.after ∙ ap (λ k. take k rest) eight);
    }
