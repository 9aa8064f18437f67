use Rattle.std.proofs.Common.{rules, arith, ◌≡◌, ◌+◌, ◌*◌, ◌^◌, ◌<◌, length, refl, sym, ap, ◌∙◌, subst}
use Rattle.bitstream_number.specs.Word.{word, bits}
use Rattle.bitstream_number.proofs.Bytes.{AreBytes-from}
use Rattle.bitstream_order.specs.Parts.{first_part}
use Rattle.bitstream_order.specs.Moving.Shift.{Shifts}
use Rattle.bitstream_order.proofs.Moving.PieceLemmas.{first_bits}
use Rattle.bitstream_order.proofs.Moving.TakeLemmas.{takes_none}
use Rattle.bitstream_stream.specs.Reading.Reads.{was_done, was_refused}
use Rattle.bitstream_stream.proofs.Reading.BytesLemmas.{reads-number, stops-number, word_of_bytes, takes_left}
use Rattle.bitstream_stream.proofs.Reading.ReaderLemmas.{answered, stopped}
use Rattle.bitstream_stream.proofs.read.reader.BitReader.fetch_bytes.Goals as goal

pub returns-in-Ok-clause-reads : goal.returns-in-Ok-clause-reads
returns-in-Ok-clause-reads g c =
    let o = g.E.Endianness.order in
    let n = length c.args.buf.now in
    let made = c.shift-left.new.bytes in
    let queued = c.args.self.now.queued in
    let few : queued < 8 = c.args.self.now.few in
    let queue = first_part o c.args.self.now.queue 8 queued in
    let left = c.shift-left.result in
    let next = c.to_front-self.result in
    let shifted : Shifts o queued queue (bits o c.fetch.new.buf) (bits o made) left =
    subst (λ q. Shifts o queued q (bits o c.fetch.new.buf) (bits o made) left) c.first-queue.ensures.value
    c.shift-left.ensures.shifts in
    let held : word o queued left ≡ word o queued (first_part o next 8 queued) = sym c.to_front-self.ensures
    ∙ first_bits o next 8 queued (omega arith) in
    let len : length made ≡ n = search rules in
    let taken = c.add_bytes.ensures ∙ ap (λ k. c.args.self.now.taken.count + 8 * k) len in
    reads-number o made n _ _ (AreBytes-from made (λ i. (c.type_inv.buf i).fits)) len
    (was_done (answered o (8 * n) queued queue (8 * n) _ queued _ _ _ _ _ _ _ c.requires.fine c.requires.fine
    (omega arith) taken
    (takes_left o queued queue _ _ queued left _ _ _ held (word_of_bytes o queued queue left n c.fetch.new.buf made _ _
    len c.in-Ok.ensures.fetches shifted))))

pub returns-in-Err-clause-reads : goal.returns-in-Err-clause-reads
returns-in-Err-clause-reads g c =
    let o = g.E.Endianness.order in
    let n = length c.args.buf.now in
    let queued = c.args.self.now.queued in
    let few : queued < 8 = c.args.self.now.few in
    let queue = first_part o c.args.self.now.queue 8 queued in
    let some = c.requires.some in
    let same : length c.fetch.new.buf ≡ n = search rules in
    stops-number o n _ _ _
    (was_refused (stopped o _ (8 * n) queued queue (8 * n) queued queue (length c.fetch.new.buf) _ _ _ _ _ _ _ _ _
    c.requires.fine (omega arith) (omega (arith, few, some)) (omega (arith, few, some)) (omega (arith, few, same))
    (omega (arith, c.add.ensures))
    (takes_none o queued queue queued _ (subst (λ q. q < 2 ^ queued) c.first-queue.ensures.value
    c.first-queue.ensures.below) refl) c.in-Err.ensures.fetches))
