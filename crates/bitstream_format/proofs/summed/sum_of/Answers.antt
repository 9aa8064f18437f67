use Rattle.std.proofs.Common.{◌∙◌, ap, sym, refl, Some}
use Rattle.bitstream_format.proofs.SummedLemmas.{aligns, whole-sent}
use Rattle.bitstream_format.proofs.summed.sum_of.Goals as goal

pub returns-in-Ok : goal.returns-in-Ok
returns-in-Ok g c =
    let target = c.into_writer.result in
    λ x sound carries. c.number.ensures target.taken.list target.is
    ∙ ap g.C.Checksum.sum (sym (whole-sent _ _ _ g.E.Endianness.order x _ _ target.taken.list carries c.in-Ok.ensures.writes
    (ap (λ s. Some s.taken.list) (sym c.into_writer.ensures)) target.bytes))

pub returns-in-Err : goal.returns-in-Err
returns-in-Err g c = λ x sound carries.
    absurd (aligns _ _ _ g.E.Endianness.order _ _ _ (λ before after n kind no. no) sound c.in-Err.ensures.writes)
