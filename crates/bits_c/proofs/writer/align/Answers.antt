use Rattle.std.proofs.Common.{◌-◌, ◌%◌, List, Bool, refl, subst, arith}
use Rattle.std.proofs.lemmas.Nat.{pow_pos}
use Rattle.bitstream_io.proofs.BytesWritten.{word-zeros}
use Rattle.bits_c.specs.Writer.{Wrote}
use Rattle.bits_c.proofs.writer.align.Goals as goal

pub returns-clause-there : goal.returns-clause-there
returns-clause-there g c = λ room.
    let all = c.write_unsigned.ensures.there (omega arith) (pow_pos _) room in (
      rw all.0 refl,
      subst (λ (w : List Bool). Wrote g.O.Endianness.order w c.args.writer.now c.write_unsigned.new.writer)
          (word-zeros g.O.Endianness.order ((8 - c.args.writer.now.at % 8) % 8)) all.1,
    )

pub returns-clause-short : goal.returns-clause-short
returns-clause-short g c = λ none.
    let all = c.write_unsigned.ensures.short (omega arith) (pow_pos _) none in
    (rw all.0 refl, all.1)
