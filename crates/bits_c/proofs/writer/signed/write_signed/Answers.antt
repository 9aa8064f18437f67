use Rattle.std.proofs.Common.{◌∙◌, ℕ, refl, sym, ap, subst, w64}
use Rattle.std.proofs.lemmas.Int.{to_z-of_z}
use Rattle.bitstream_io.specs.Callers.{word}
use Rattle.bitstream_io.specs.Word.{residue}
use Rattle.bitstream_io.proofs.WordLemmas.{length-word}
use Rattle.bits_c.specs.Writer.{HasRoom, Wrote}
use Rattle.bits_c.proofs.writer.signed.write_signed.Goals as goal

pub returns-clause-there : goal.returns-clause-there
returns-clause-there g c = λ some few fits.
    let o = g.O.Endianness.order in
    let n = c.args.width in
    let old = c.args.writer.now in
    let unsigned = c.write_unsigned.ensures in
    let below = c.complement.ensures.below in
    let is = c.complement.ensures.is ∙ ap (residue n) (to_z-of_z w64 c.args.value c.ranges.value) in
    let long = length-word o n (residue n c.args.value) in
    record {
      there = λ room.
          let all = unsigned.there few below (subst (λ (k : ℕ). HasRoom old k) long room) in
          (rw all.0 refl, subst (λ (u : ℕ). Wrote o (word o n u) old c.write_unsigned.new.writer) is all.1);
      short = λ none.
          let all = unsigned.short few below (λ room. none (subst (λ (k : ℕ). HasRoom old k) (sym long) room)) in
          (rw all.0 refl, all.1);
    }
