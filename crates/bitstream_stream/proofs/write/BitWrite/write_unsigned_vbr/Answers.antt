use Rattle.std.proofs.Common.{arith, refl}
use Rattle.bitstream_stream.proofs.Writing.SinkParts.{probe_stops, probed, room_for, no_room_for}
use Rattle.bitstream_stream.proofs.Shared.{exit_is}
use Rattle.bitstream_stream.proofs.Writing.VbrWrites.{groups-start, groups-more, groups-stop, groups-last}
use Rattle.bitstream_stream.proofs.write.BitWrite.write_unsigned_vbr.Goals as goal

pub returns-in_err-write_unsigned_var : goal.returns-in_err-write_unsigned_var
returns-in_err-write_unsigned_var g c = record {
  writes =
      probe_stops g.Self.BitWrite.sink _ _ _ _ c.in_err-write_unsigned_var.ensures.writes c.from_residual.ensures.1;
}

pub returns-then-not-has_room : goal.returns-then-not-has_room
returns-then-not-has_room g c =
    let K = g.Self.BitWrite.sink in
    record {
      writes = no_room_for K _ _ _ c.in_ok-write_unsigned_var.ensures.writes _ _ _ _ c.if-not-has_room.true
          c.has_room.ensures.room.1 (c.vbr_bits.ensures K.order) refl;
    }

pub loop-group-init : goal.loop-group-init
loop-group-init g c =
    let K = g.Self.BitWrite.sink in
    let within = c.requires.within in
    let probe = c.in_ok-write_unsigned_var.ensures.writes in
    record {
      groups = groups-start K g.F.Width.BITS g.U.Numeric.BITS_SIZE _ (omega (arith, within)) _ _ (probed K _ _ _ probe);
      room = room_for K _ _ _ probe _ _ (c.vbr_bits.ensures K.order)
          (c.has_room.ensures.room.0 c.if-not-has_room.false);
    }

pub returns-in_err-write_unsigned : goal.returns-in_err-write_unsigned
returns-in_err-write_unsigned g c =
    let K = g.Self.BitWrite.sink in
    let inv = c.loop-group.invariant in
    record {
      writes = groups-stop K g.F.Width.BITS g.U.Numeric.BITS_SIZE _ (omega (arith, c.requires.within)) _ _ _ _ _
          inv.groups _ _ _ _ c.in-Some.ensures.first c.in_err-write_unsigned.ensures.writes refl
          (exit_is _ c.from_residual-in_err-write_unsigned.ensures.1) inv.room;
    }

pub loop-group-preserved : goal.loop-group-preserved
loop-group-preserved g c =
    let K = g.Self.BitWrite.sink in
    let inv = c.loop-group.invariant in
    record {
      groups = groups-more K g.F.Width.BITS g.U.Numeric.BITS_SIZE _ (omega (arith, c.requires.within)) _ _ _ _ _
          inv.groups _ _ _ c.in-Some.ensures.first c.in_ok-write_unsigned.ensures.writes refl;
      room = inv.room;
    }

pub returns : goal.returns
returns g c =
    let K = g.Self.BitWrite.sink in
    let inv = c.loop-group.invariant in
    record {
      writes = groups-last K g.F.Width.BITS g.U.Numeric.BITS_SIZE _ (omega (arith, c.requires.within)) _ _ _ _ _
          inv.groups (c.in_default.ensures.last refl) c.write_unsigned-2.ensures.writes inv.room;
    }
