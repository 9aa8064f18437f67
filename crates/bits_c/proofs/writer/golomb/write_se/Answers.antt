use borrow.Author.Rules.{sfits_of}
use Rattle.std.proofs.Common.{◌∙◌, ℕ, ℤ, SFits, w32, sym, ap, subst}
use Rattle.std.proofs.lemmas.Int.{to_z-of_z}
use Rattle.bitstream_io.specs.Callers.{write_sequence}
use Rattle.bitstream_io.specs.Golomb.{place_of, se_writes, ue_writes}
use Rattle.bits_c.specs.Writer.{WritesBits}
use Rattle.bits_c.proofs.writer.golomb.write_se.Goals as goal

pub returns-clause-there : goal.returns-clause-there
returns-clause-there g c = λ small.
    let o = g.O.Endianness.order in
    let old = c.args.writer.now in
    let now = c.write_ue.new.writer in
    let fits : SFits w32 c.write_ue.result = search sfits_of in
    let is = c.place.ensures.is ∙ ap place_of (to_z-of_z w32 c.args.value c.ranges.value) in
    let made = c.write_ue.ensures.there c.place.ensures.below in
    subst (λ (s : ℤ). WritesBits o (write_sequence (se_writes o c.args.value) 0) old s now)
    (sym (to_z-of_z w32 c.write_ue.result fits))
    (subst (λ (k : ℕ). WritesBits o (write_sequence (ue_writes o k) 0) old c.write_ue.result now) is made)
