use Rattle.std.proofs.Common.{◌∙◌, ◌/◌, ◌%◌, length, take, drop, ap, arith}
use Rattle.std.proofs.lemmas.List.{length-drop}
use Rattle.bitstream_io.specs.Callers.{bits, number}
use Rattle.bits_c.proofs.ReaderLemmas.{bits-from}
use Rattle.bits_c.proofs.numbers.number_at.Goals as goal

pub number_in-requires-clause-there : goal.number_in-requires-clause-there
number_in-requires-clause-there g c =
    let size = ap length c.from_byte.ensures in
    let there = c.requires.there in
    omega (arith, there, size, length-drop (c.args.at / 8) c.args.bytes.now)

pub returns : goal.returns
returns g c =
    let o = g.O.Endianness.order in
    let n = c.args.width in
    let at = c.args.at in
    let there = c.requires.there in
    c.number_in.ensures
    ∙ ap (λ xs. number o (take n (drop (at % 8) (bits o xs)))) c.from_byte.ensures
    ∙ ap (λ it. number o (take n it)) (bits-from o at c.args.bytes.now (omega (arith, there)))
