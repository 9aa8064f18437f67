use Rattle.std.proofs.Common.{◌∙◌, ◌+◌, ◌-◌, ◌*◌, ℕ, true, refl, sym, ap, subst, arith}
use Rattle.bitstream_io.specs.Callers.{write_sequence}
use Rattle.bitstream_io.specs.Golomb.{ue_writes, zeros_of}
use Rattle.bitstream_io.specs.Unary.{unary}
use Rattle.bitstream_io.proofs.CallerLemmas.{one_shl, top}
use Rattle.bits_c.specs.Writer.{HasRoom, Wrote}
use Rattle.bits_c.proofs.RunLemmas.{ue-long, ue-room, ue-wrote}
use Rattle.bits_c.proofs.WroteLemmas.{did-write, no-room}
use Rattle.bits_c.proofs.writer.golomb.write_ue.Goals as goal

pub returns-then-not-has_room-clause-there : goal.returns-then-not-has_room-clause-there
returns-then-not-has_room-clause-there g c = λ small.
    let o = g.O.Endianness.order in
    let long = ue-long o c.args.value small ∙ ap (λ (k : ℕ). 2 * k + 1) (sym c.from.ensures) in
    no-room o (write_sequence (ue_writes o c.args.value) 0) c.args.writer.now _ _ c.has_room.ensures
    c.if-not-has_room.true long

pub overflow_sub-more : goal.overflow_sub-more
overflow_sub-more g c =
    let t = top 32 (c.args.value + 1) (omega arith) (omega arith) in
    rw (one_shl (zeros_of c.args.value) 32 t.within) t.low

pub append-requires-clause-room : goal.append-requires-clause-room
append-requires-clause-room g c =
    let o = g.O.Endianness.order in
    let n = zeros_of c.args.value in
    let old = c.args.writer.now in
    let now = c.append_unary.new.writer in
    let wrote = subst (λ (k : ℕ). Wrote o (unary true k) old now) c.from-2.ensures c.append_unary.ensures in
    let room = subst (λ (k : ℕ). HasRoom old (2 * k + 1)) c.from.ensures (c.has_room.ensures.0 c.if-not-has_room.false) in
    ue-room o n old now room wrote

pub returns-clause-there : goal.returns-clause-there
returns-clause-there g c = λ small.
    let o = g.O.Endianness.order in
    let v = c.args.value in
    let n = zeros_of v in
    let old = c.args.writer.now in
    let now = c.append_unary.new.writer in
    let t = top 32 (v + 1) (omega arith) (omega arith) in
    let long = ue-long o v small ∙ ap (λ (k : ℕ). 2 * k + 1) (sym c.from.ensures) in
    let wrote = subst (λ (k : ℕ). Wrote o (unary true k) old now) c.from-2.ensures c.append_unary.ensures in
    let room = subst (λ (k : ℕ). HasRoom old (2 * k + 1)) c.from.ensures (c.has_room.ensures.0 c.if-not-has_room.false) in
    let rest = c.from-3.ensures ∙ ap (λ (k : ℕ). v + 1 - k) (one_shl n 32 t.within) in
    did-write o (write_sequence (ue_writes o v) 0) old c.append.new.writer _ _ c.has_room.ensures c.if-not-has_room.false
    long (ue-wrote o v n c.from-3.result old now c.append.new.writer small refl rest room wrote c.append.ensures)
