use Rattle.std.proofs.Common.{[], Err, refl, ap, ◌∙◌}
use Rattle.std.proofs.lemmas.Result.{err_from_is_err_and}
use Rattle.bitstream_stream.proofs.Writing.SinkParts.{from_ok, probe_failed, probe_refused}
use Rattle.bitstream_stream.proofs.Writing.WriteLemmas.{unsigned-none}
use Rattle.bitstream_value.proofs.refuse.refuse_write.Goals as goal

pub returns-in_err-write_unsigned_var : goal.returns-in_err-write_unsigned_var
returns-in_err-write_unsigned_var g c = record {
  writes =
      let p = err_from_is_err_and c.from_residual.result c.from_residual.ensures.1 in
      probe_failed g.W.BitWrite.sink _ _ _ _ _ _ _ c.in_err-write_unsigned_var.ensures.writes refl (p.1
      ∙ ap Err p.2) (unsigned-none _ _ _ _);
}

pub returns : goal.returns
returns g c = record {
  writes =
      let K = g.W.BitWrite.sink in
      probe_refused K _ _ _ _ _ (from_ok K _ _ _ _ _ [] c.in_ok-write_unsigned_var.ensures.writes refl
      (unsigned-none _ _ _ _)) refl refl;
}
