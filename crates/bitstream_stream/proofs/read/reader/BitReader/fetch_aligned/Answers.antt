use Rattle.std.proofs.Common.{rules, arith, ◌≡◌, ◌+◌, ◌*◌, ◌<◌, ◌++◌, length, refl, sym, ap, ◌∙◌}
use Rattle.std.proofs.lemmas.Nat.{pow_pos}
use Rattle.bitstream_number.specs.Word.{word, bits}
use Rattle.bitstream_number.proofs.Bytes.{AreBytes-from}
use Rattle.bitstream_order.specs.Parts.{first_part}
use Rattle.bitstream_order.specs.Port.{source_state}
use Rattle.bitstream_order.proofs.Moving.ShiftLemmas.{shifts_aligned}
use Rattle.bitstream_order.proofs.Moving.TakeLemmas.{takes_none, word-none}
use Rattle.bitstream_stream.specs.Reading.Reads.{was_done, was_refused}
use Rattle.bitstream_stream.proofs.Reading.BytesLemmas.{reads-number, stops-number, word_of_bytes}
use Rattle.bitstream_stream.proofs.Reading.ReaderLemmas.{answered, stopped}
use Rattle.bitstream_stream.proofs.read.reader.BitReader.fetch_aligned.Goals as goal

pub returns-in-Ok-clause-reads : goal.returns-in-Ok-clause-reads
returns-in-Ok-clause-reads g c =
    let o = g.E.Endianness.order in
    let p = source_state g.R.Source.stream c.args.self.now.port in
    let new = source_state g.R.Source.stream c.fetch.new.self in
    let n = length c.args.buf.now in
    let made = c.fetch.new.buf in
    let queued = c.args.self.now.queued in
    let few : queued < 8 = c.args.self.now.few in
    let queue = first_part o c.args.self.now.queue 8 queued in
    let len : length made ≡ n = search rules in
    let taken = c.add_bytes.ensures ∙ ap (λ k. c.args.self.now.taken.count + 8 * k) len in
    reads-number o made n _ _ (AreBytes-from made (λ i. (c.type_inv.buf i).fits)) len
    (was_done (answered o (8 * n) queued queue (8 * n) _ queued _ _ _ _ _ p new c.requires.fine c.requires.fine
    (omega arith) taken
    (word_of_bytes o queued queue queue n made made p new len c.in-Ok.ensures.fetches
    (shifts_aligned o queued queue (bits o made) c.requires.none))))

pub returns-in-Err-clause-reads : goal.returns-in-Err-clause-reads
returns-in-Err-clause-reads g c =
    let o = g.E.Endianness.order in
    let p = source_state g.R.Source.stream c.args.self.now.port in
    let new = source_state g.R.Source.stream c.fetch.new.self in
    let n = length c.args.buf.now in
    let queued = c.args.self.now.queued in
    let few : queued < 8 = c.args.self.now.few in
    let queue = first_part o c.args.self.now.queue 8 queued in
    let some = c.requires.some in
    let same : length c.fetch.new.buf ≡ n = search rules in
    let empty : word o queued queue ≡ word o queued 0 = rw c.requires.none (word-none o _ ∙ sym (word-none o 0)) in
    let nothing = takes_none o queued 0 queued p (pow_pos queued) refl in
    stops-number o n _ _ _
    (was_refused (stopped o _ (8 * n) queued queue (8 * n) queued 0 (length c.fetch.new.buf) _ _ _ _ _ _ p p new
    c.requires.fine (omega arith) (omega (arith, few, some)) (omega (arith, few, some)) (omega (arith, few, same))
    (omega arith)
    (record {
      bytes = nothing.bytes;
      loses = nothing.loses;
      fetched = nothing.fetched;
      refusals = nothing.refusals;
      references = nothing.references;
      word = ap (λ w. w ++ bits o nothing.bytes) empty ∙ nothing.word;
      below = nothing.below;
    }) c.in-Err.ensures.fetches))
