use Rattle.std.proofs.Common.{rules, arith, refl, ◌<◌, ◌-◌, ◌∙◌}
use Rattle.bitstream_order.specs.Port.{source_state}
use Rattle.bitstream_order.proofs.Moving.TakeLemmas.{takes_queue}
use Rattle.bitstream_stream.specs.Reading.Reads.{was_done}
use Rattle.bitstream_stream.proofs.Reading.ReaderLemmas.{answered}
use Rattle.bitstream_stream.proofs.read.reader.BitReader.take_word.Goals as goal

pub returns-clause-reads : goal.returns-clause-reads
returns-clause-reads g c =
    let byte : c.first-first.result < 256 = c.first-first.type_inv in
    let queue : c.args.self.now.queue < 256 = search rules in
    let few = c.args.self.now.few in
    let value = g.met.U.UnsignedInteger.byte_law _ _ c.from_u8.ensures byte ∙ c.first-first.ensures.value in
    let p = source_state g.R.Source.stream c.args.self.now.port in
    was_done (answered _ _ _ _ _ _ _ _ _ _ _ _ p p c.requires.fine c.requires.fine c.requires.room c.add.ensures
    (takes_queue g.E.Endianness.order _ c.args.self.now.queue _ (c.args.self.now.queued - c.args.bits) _ _ p queue
    (omega arith) (omega arith) value (c.rest-self.ensures _ (omega arith))))

pub invariant_of-self-clause-whole : goal.invariant_of-self-clause-whole
invariant_of-self-clause-whole g c =
    let back = c.args.self.now.back c.requires.fine in
    omega (arith, c.add.ensures, c.args.self.now.whole, c.args.self.now.few)

pub invariant_of-self-clause-back : goal.invariant_of-self-clause-back
invariant_of-self-clause-back g c = λ fine.
    let back = c.args.self.now.back c.requires.fine in
    omega (arith, c.add.ensures)

pub returns-clause-asks : goal.returns-clause-asks
returns-clause-asks g c = (omega arith, λ _. refl)

pub returns-then-bits-queued-clause-reads : goal.returns-then-bits-queued-clause-reads
returns-then-bits-queued-clause-reads g c = c.fetch_word.ensures.reads

pub returns-then-bits-queued-clause-asks : goal.returns-then-bits-queued-clause-asks
returns-then-bits-queued-clause-asks g c = c.fetch_word.ensures.asks
