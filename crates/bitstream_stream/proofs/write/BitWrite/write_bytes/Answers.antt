use Rattle.std.proofs.Common.{rules, arith, ◌≡◌, ◌+◌, ◌*◌, ◌<◌, length, take, drop, get_or, take_all, Ok, refl, sym, ap, ◌∙◌}
use Rattle.bitstream_number.specs.Word.{word, bits}
use Rattle.bitstream_number.proofs.WordLemmas.{length-bits}
use Rattle.bitstream_stream.specs.Writing.WriteTable.{unsigned, buffer}
use Rattle.bitstream_stream.proofs.Writing.SinkParts.{from_ok, to_ok, probe_stops, probed, room_for, no_room_for, part_stops, Begun-more}
use Rattle.bitstream_stream.proofs.Writing.WriteLemmas.{unsigned-fits}
use Rattle.bitstream_stream.proofs.Writing.WriteParts.{flat_map-take, flat_map-split}
use Rattle.bitstream_stream.proofs.write.BitWrite.write_bytes.Goals as goal

pub returns-in_err-write_unsigned_var : goal.returns-in_err-write_unsigned_var
returns-in_err-write_unsigned_var g c = record {
  writes =
      probe_stops g.Self.BitWrite.sink _ _ _ _ c.in_err-write_unsigned_var.ensures.writes c.from_residual.ensures.1;
}

pub returns-then-not-has_room : goal.returns-then-not-has_room
returns-then-not-has_room g c =
    let K = g.Self.BitWrite.sink in
    let bytes = c.args.bytes.now in
    let size : length (bits K.order bytes) ≡ length bytes * 8 = length-bits K.order bytes ∙ omega arith in
    record {
      writes = no_room_for K _ _ _ c.in_ok-write_unsigned_var.ensures.writes _ _ _ _ c.if-not-has_room.true
          c.has_room.ensures.room.1 size refl;
    }

pub loop-byte-init : goal.loop-byte-init
loop-byte-init g c =
    let K = g.Self.BitWrite.sink in
    let probe = c.in_ok-write_unsigned_var.ensures.writes in
    record {
      begun = probed K _ _ _ probe;
      room = room_for K _ _ _ probe _ _ (omega arith)
          (c.has_room.ensures.room.0 c.if-not-has_room.false);
    }

pub returns-in_err-write_unsigned_var-2 : goal.returns-in_err-write_unsigned_var-2
returns-in_err-write_unsigned_var-2 g c =
    let K = g.Self.BitWrite.sink in
    let o = K.order in
    let at = c.loop-byte.byte-index in
    let bytes = c.args.bytes.now in
    let less : at < length bytes = search rules in
    let v = get_or bytes at 0 in
    let small : v < 256 = (c.type_inv.bytes at).fits in
    record {
      writes = part_stops K (unsigned o 8 8 v) (buffer o bytes) (bits o (take at bytes)) (word o 8 v)
          (bits o (drop (at + 1) bytes)) (8 * length bytes)
          c.loop-byte.invariant.begun c.in_err-write_unsigned_var-2.ensures.writes
          c.from_residual-in_err-write_unsigned_var-2.ensures.1 (unsigned-fits o 8 8 v _ (omega arith) small)
          (bits o bytes) refl (flat_map-split (word o 8) bytes at 0 less) (length-bits o bytes)
          c.loop-byte.invariant.room;
    }

pub loop-byte-preserved : goal.loop-byte-preserved
loop-byte-preserved g c =
    let K = g.Self.BitWrite.sink in
    let o = K.order in
    let at = c.loop-byte.byte-index in
    let bytes = c.args.bytes.now in
    let less : at < length bytes = search rules in
    let v = get_or bytes at 0 in
    let small : v < 256 = (c.type_inv.bytes at).fits in
    let b = from_ok K (unsigned o 8 8 v) _ _ _ _ (word o 8 v) c.in_ok-write_unsigned_var-2.ensures.writes refl
    (unsigned-fits o 8 8 v _ (omega arith) small) in
    record {
      begun = rw (flat_map-take (word o 8) bytes at 0 less)
          (Begun-more K _ _ _ (bits o (take at bytes)) (word o 8 v) c.loop-byte.invariant.begun b);
      room = c.loop-byte.invariant.room;
    }

pub returns : goal.returns
returns g c =
    let K = g.Self.BitWrite.sink in
    let at = c.loop-byte.byte-index in
    let bytes = c.args.bytes.now in
    let all = take_all at bytes c.loop-byte-test.false in
    record {
      writes = to_ok K (buffer K.order bytes) _ _ _ _ (bits K.order (take at bytes)) c.loop-byte.invariant.begun
          refl (ap (λ xs. Ok (bits K.order xs)) (sym all));
    }
