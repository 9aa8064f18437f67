use Rattle.std.proofs.Common.{rules, ◌≡◌, ◌<◌, ℕ, List, length, take, subst, take_all}
use Rattle.bitstream_io.specs.Callers.{bits}
use Rattle.bitstream_io.proofs.WordLemmas.{length-bits}
use Rattle.bits_c.specs.Writer.{Wrote}
use Rattle.bits_c.proofs.WroteLemmas.{bytes-more, bytes-room, did-write, no-room, wrote-none}
use Rattle.bits_c.proofs.writer.bytes.write_bytes.Goals as goal

pub returns-then-not-has_room : goal.returns-then-not-has_room
returns-then-not-has_room g c =
    let o = g.O.Endianness.order in
    no-room o (bits o c.args.bytes.now) c.args.writer.now _ _ c.has_room.ensures c.if-not-has_room.true
    (length-bits o c.args.bytes.now)

pub loop-byte-init : goal.loop-byte-init
loop-byte-init g c = record {
  room = c.has_room.ensures.0 c.if-not-has_room.false;
  wrote = wrote-none g.O.Endianness.order c.args.writer.now;
}

pub append-requires-clause-room : goal.append-requires-clause-room
append-requires-clause-room g c =
    let less : c.loop-byte.byte-index < length c.args.bytes.now = search rules in
    bytes-room g.O.Endianness.order c.args.bytes.now c.loop-byte.byte-index _ _ less c.loop-byte.invariant.room
    c.loop-byte.invariant.wrote

pub loop-byte-preserved : goal.loop-byte-preserved
loop-byte-preserved g c =
    let less : c.loop-byte.byte-index < length c.args.bytes.now = search rules in
    record {
      room = c.loop-byte.invariant.room;
      wrote = bytes-more g.O.Endianness.order c.args.bytes.now c.loop-byte.byte-index _ _ _ _ less
          c.loop-byte.invariant.room c.from.ensures c.loop-byte.invariant.wrote c.append.ensures;
    }

pub returns : goal.returns
returns g c =
    let o = g.O.Endianness.order in
    let all : take c.loop-byte.byte-index c.args.bytes.now ≡ c.args.bytes.now =
    take_all c.loop-byte.byte-index c.args.bytes.now c.loop-byte-test.false in
    did-write o (bits o c.args.bytes.now) c.args.writer.now _ _ _ c.has_room.ensures c.if-not-has_room.false
    (length-bits o c.args.bytes.now)
    (subst (λ (it : List ℕ). Wrote o (bits o it) c.args.writer.now c.loop-byte.writer) all c.loop-byte.invariant.wrote)
