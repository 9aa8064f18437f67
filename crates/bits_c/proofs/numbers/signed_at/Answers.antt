use Rattle.std.proofs.Common.{◌∙◌, ◌/◌, ◌%◌, length, take, drop, ap, arith, SFits, w64}
use Rattle.std.proofs.lemmas.List.{length-drop}
use Rattle.std.proofs.lemmas.Int.{to_z-of_z}
use borrow.Author.Rules.{sfits_of}
use Rattle.bitstream_io.specs.Callers.{bits, signed_number}
use Rattle.bits_c.proofs.ReaderLemmas.{bits-from}
use Rattle.bits_c.proofs.numbers.signed_at.Goals as goal

pub signed_in-requires-clause-there : goal.signed_in-requires-clause-there
signed_in-requires-clause-there g c =
    let size = ap length c.from_byte.ensures in
    let there = c.requires.there in
    omega (arith, there, size, length-drop (c.args.at / 8) c.args.bytes.now)

pub returns : goal.returns
returns g c =
    let o = g.O.Endianness.order in
    let n = c.args.width in
    let at = c.args.at in
    let there = c.requires.there in
    let fits : SFits w64 c.signed_in.result = search sfits_of in
    to_z-of_z w64 c.signed_in.result fits ∙ c.signed_in.ensures
    ∙ ap (λ xs. signed_number o (take n (drop (at % 8) (bits o xs)))) c.from_byte.ensures
    ∙ ap (λ it. signed_number o (take n it)) (bits-from o at c.args.bytes.now (omega (arith, there)))
