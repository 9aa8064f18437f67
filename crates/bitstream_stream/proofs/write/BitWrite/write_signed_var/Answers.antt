use Rattle.std.proofs.Common.{refl, sym, ◌∙◌}
use Rattle.bitstream_stream.proofs.Writing.SinkParts.{probe_stops, probed, probe_refused}
use Rattle.bitstream_stream.proofs.Writing.WriteLemmas.{signed-none, none_of}
use Rattle.bitstream_stream.proofs.write.BitWrite.write_signed_var.Goals as goal

pub returns-in-Some : goal.returns-in-Some
returns-in-Some g c = record {
  writes = rw (
    c.in-Some.ensures.1,
    c.unknown.ensures,
  ) at c.write_signed_counted.ensures.writes;
}

pub returns-in_err-write_unsigned_var-in-None : goal.returns-in_err-write_unsigned_var-in-None
returns-in_err-write_unsigned_var-in-None g c =
    record {
      writes = probe_stops g.Self.BitWrite.sink _ _ _ _ c.in_err-write_unsigned_var-in-None.ensures.writes
          c.from_residual.ensures.1;
    }

pub returns-in_ok-write_unsigned_var-in-None : goal.returns-in_ok-write_unsigned_var-in-None
returns-in_ok-write_unsigned_var-in-None g c =
    let K = g.Self.BitWrite.sink in
    let bare = signed-none K.order _ _ _ (K.len c.args.self.now) (sym c.unknown.ensures ∙ none_of _ c.in-None.ensures)
    in
    record {
      writes = probe_refused K _ _ _ _ _ (probed K _ _ _ c.in_ok-write_unsigned_var-in-None.ensures.writes) bare
          refl;
    }
