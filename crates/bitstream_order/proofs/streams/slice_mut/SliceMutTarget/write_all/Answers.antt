use Rattle.std.proofs.Common.{◌+◌, length, arith, refl, length-take-le, ◌∙◌}
use Rattle.std.proofs.lemmas.Slice.{drop-put_mid}
use Rattle.bitstream_order.proofs.Streaming.SliceMutLemmas.{drop-further}
use Rattle.bitstream_order.proofs.streams.slice_mut.SliceMutTarget.write_all.Goals as goal

pub invariant_of-self-clause-free : goal.invariant_of-self-clause-free
invariant_of-self-clause-free c =
    let s = c.args.self.now in
    let long = c.copy.auto.to in
    let room = s.room in
    drop-put_mid s.written _ s.bytes.now c.copy.new.to (s.written + length c.args.bytes.now) (omega arith) room
    (omega arith) ∙ drop-further _ _ s.written (length c.args.bytes.now) s.free

pub returns-then-self-written-clause-refused : goal.returns-then-self-written-clause-refused
returns-then-self-written-clause-refused c =
    let written = length-take-le c.args.self.now.written c.args.self.now.bytes.now c.args.self.now.room in
    (c.from.ensures, omega arith, refl)
