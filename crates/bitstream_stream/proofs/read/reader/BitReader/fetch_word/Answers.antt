use Rattle.std.proofs.Common.{rules, arith, ℕ, ◌≡◌, ◌≤◌, ◌<◌, ◌-◌, ◌+◌, ◌/◌, ◌∙◌, sym, refl}
use Rattle.bitstream_order.specs.Parts.{first_part}
use Rattle.bitstream_order.specs.Port.{source_state}
use Rattle.bitstream_order.proofs.PartLemmas.{first_below}
use Rattle.bitstream_order.proofs.Moving.TakeLemmas.{takes_none, takes_as}
use Rattle.bitstream_stream.specs.Reading.Reads.{was_done, was_refused}
use Rattle.bitstream_stream.proofs.Reading.ReadsLemmas.{map_err}
use Rattle.bitstream_stream.proofs.Reading.ReaderLemmas.{answered, stopped, takes_fetched}
use Rattle.bitstream_stream.proofs.read.reader.BitReader.fetch_word.Goals as goal

pub returns-in_err-value-clause-reads : goal.returns-in_err-value-clause-reads
returns-in_err-value-clause-reads g c =
    let p = source_state g.R.Source.stream c.args.self.now.port in
    let new = source_state g.R.Source.stream c.take_bits.new.port in
    let queued = c.args.self.now.queued in
    let byte : c.args.self.now.queue < 256 = search rules in
    let few = c.args.self.now.few in
    let o = g.E.Endianness.order in
    let queue = first_part o c.args.self.now.queue 8 queued in
    rw (map_err g.U.UnsignedInteger.value c.from_residual.result c.from_residual.ensures.1)
    (was_refused (stopped o _ _ queued queue c.args.bits queued queue ((c.args.bits - queued + 7) / 8) _ _ _ _ _ _ p p
    new c.requires.fine c.requires.room c.requires.more c.requires.more (omega arith) (omega (arith, c.add.ensures))
    (takes_none o queued queue queued p (first_below o c.args.self.now.queue 8 queued byte (omega arith)) refl)
    c.in_err-value.ensures.takes))

pub returns-clause-reads : goal.returns-clause-reads
returns-clause-reads g c =
    let p = source_state g.R.Source.stream c.args.self.now.port in
    let new = source_state g.R.Source.stream c.take_bits.new.port in
    let queued = c.args.self.now.queued in
    let byte : c.first.result < 256 = c.first.type_inv in
    let same = g.met.U.UnsignedInteger.byte_law _ _ c.from_u8-queue.ensures byte ∙ c.first.ensures.value in
    let first = c.add.ensures in
    let later = c.add-2.ensures in
    was_done (answered _ _ _ _ _ _ _ _ _ _ _ _ p new c.requires.fine refl c.requires.room (omega arith)
    (takes_as g.E.Endianness.order queued _ _ (queued + (c.args.bits - queued)) c.args.bits _ _ _ _ p new same
    (omega arith) (sym c.unused_bits-self.ensures) c.in_ok-value.ensures.takes))

pub invariant_of-self : goal.invariant_of-self
invariant_of-self g c =
    let same = c.in_err-value.ensures.takes.fetched in
    let back = c.args.self.now.back c.requires.fine in
    let taken = c.add.ensures in
    record {
      few = omega arith;
      whole = omega arith;
      back = λ fine. cc;
      empty = λ failed. refl;
    }

pub invariant_of-self-2-clause-whole : goal.invariant_of-self-2-clause-whole
invariant_of-self-2-clause-whole g c =
    let f = takes_fetched _ _ _ _ _ _ _ _ _ c.in_ok-value.ensures.takes in
    let back = c.args.self.now.back c.requires.fine in
    let first = c.add.ensures in
    let later = c.add-2.ensures in
    omega arith

pub invariant_of-self-2-clause-back : goal.invariant_of-self-2-clause-back
invariant_of-self-2-clause-back g c = λ fine.
    let f = takes_fetched _ _ _ _ _ _ _ _ _ c.in_ok-value.ensures.takes in
    let back = c.args.self.now.back c.requires.fine in
    let first = c.add.ensures in
    let later = c.add-2.ensures in
    let left = c.unused_bits-self.ensures in
    omega arith

pub overflow_sub-more : goal.overflow_sub-more
overflow_sub-more g c = let more = c.requires.more in omega (arith, more)

pub take_bits-requires-clause-below : goal.take_bits-requires-clause-below
take_bits-requires-clause-below g c =
    let byte : c.first.result < 256 = c.first.type_inv in
    let same = g.met.U.UnsignedInteger.byte_law _ _ c.from_u8-queue.ensures byte ∙ c.first.ensures.value in
    rw same (first_below g.E.Endianness.order c.args.self.now.queue 8 c.args.self.now.queued (search rules)
    (omega (arith, c.args.self.now.few)))

pub take_bits-requires-clause-some : goal.take_bits-requires-clause-some
take_bits-requires-clause-some g c = let more = c.requires.more in omega (arith, more)

pub take_bits-requires-clause-room : goal.take_bits-requires-clause-room
take_bits-requires-clause-room g c =
    let more = c.requires.more in
    let room = c.requires.room in
    omega (arith, more, room)

-- one request was made, for more bits than were queued
one_request : (n queued made new : ℕ) → new ≡ made + 1 → queued < n → (new ≤ made + 1) × (n ≤ queued → new ≡ made)
one_request n queued made new one more = (omega (arith, one), (λ held. absurd (omega (arith, more, held))))

pub returns-in_err-value-clause-asks : goal.returns-in_err-value-clause-asks
returns-in_err-value-clause-asks g c = one_request _ _ _ _ c.in_err-value.ensures.requests c.requires.more

pub returns-clause-asks : goal.returns-clause-asks
returns-clause-asks g c = one_request _ _ _ _ c.in_ok-value.ensures.requests c.requires.more
