use Rattle.std.proofs.Common.{◌≡◌, ◌+◌, ◌^◌, ◌<◌, ◌++◌, length, refl, sym, arith}
use Rattle.bitstream_number.specs.Word.{word}
use Rattle.bitstream_stream.specs.Writing.CodeWord.{code_bits}
use Rattle.bitstream_stream.proofs.Writing.CodeWrites.{all-below, below-byte, bits-kept, filling, filling-full, progress-start, progress-more, progress-stop, progress-end, put-all}
use Rattle.bitstream_stream.proofs.write.writer.BitWriterBitWrite.write_code_word.Given.{Over}
use Rattle.bitstream_stream.proofs.write.writer.BitWriterBitWrite.write_code_word.Goals.{After-put-all}
use Rattle.bitstream_stream.proofs.write.writer.BitWriterBitWrite.write_code_word.Goals as goal

-- the queue and the code word as one number
below : (g : Over) (c : After-put-all g) → c.put-all.result < 2 ^ (c.args.self.now.queued + c.len-bits.result)
below g c =
    let old = c.args.self.now in
    all-below g.E.Endianness.order old.queued old.queue _ _ _ c.put-all.result (code_bits c.args.word) old.small
    c.from.ensures c.len-bits.ensures.len c.number.ensures.small c.put-all.ensures

whole : (g : Over) (c : After-put-all g)
    → word g.E.Endianness.order (c.args.self.now.queued + c.len-bits.result) c.put-all.result
    ≡ word g.E.Endianness.order c.args.self.now.queued c.args.self.now.queue ++ code_bits c.args.word
whole g c =
    let old = c.args.self.now in
    put-all g.E.Endianness.order old.queued old.queue _ _ _ c.put-all.result (code_bits c.args.word) old.small
    c.from.ensures c.len-bits.ensures.len c.number.ensures.small c.number.ensures.word c.put-all.ensures

some : (g : Over) (c : After-put-all g) → 0 < length (code_bits c.args.word)
some g c =
    let size = c.len-bits.ensures.len in
    let not = c.if-bits-eq0.false in
    omega (arith, size, not)

pub overflow_cast-self : goal.overflow_cast-self
overflow_cast-self g c =
    let small = below-byte _ c.put-all.result c.if-total-lt8.true
    (below g (goal.at.overflow_cast-self g c).After-put-all) in
    record { fits = small }

pub invariant_of-self-clause-small : goal.invariant_of-self-clause-small
invariant_of-self-clause-small g c = below g (goal.at.invariant_of-self-clause-small g c).After-put-all

pub returns-then-total-lt8 : goal.returns-then-total-lt8
returns-then-total-lt8 g c =
    let at = (goal.at.returns-then-total-lt8 g c).After-put-all in
    record {
      writes = bits-kept g.W.Target.stream g.E.Endianness.order c.args.self.now _ (code_bits c.args.word)
          c.if-self.false refl c.if-self.false (sym (whole g at)) (some g at);
    }

pub loop-left-init : goal.loop-left-init
loop-left-init g c =
    progress-start g.W.Target.stream g.E.Endianness.order (code_bits c.args.word) _ c.put-all.result c.args.self.now
    c.if-self.false (whole g (goal.at.loop-left-init g c).After-put-all)

pub returns-in_err-send_full : goal.returns-in_err-send_full
returns-in_err-send_full g c =
    let O = g.W.Target.stream in
    let o = g.E.Endianness.order in
    let h = c.loop-left.invariant in
    let full = c.loop-left-test.true in record {
      writes = progress-stop O o _ _ _ _ _ _ _ h full c.cut.ensures c.from_residual.result _ _
          c.from_residual.ensures.1 (c.in_err-send_full.ensures.writes (filling O o _ _ _ _ _ _ _ h full c.cut.ensures)
          (filling-full O o _ _ _ _ _ _ _ h full c.cut.ensures));
    }

pub loop-left-preserved : goal.loop-left-preserved
loop-left-preserved g c =
    let O = g.W.Target.stream in
    let o = g.E.Endianness.order in
    let h = c.loop-left.invariant in
    let full = c.loop-left-test.true in
    progress-more O o _ _ _ _ _ _ _ h full c.cut.ensures _ (c.in_ok-send_full.ensures.writes
    (filling O o _ _ _ _ _ _ _ h full c.cut.ensures) (filling-full O o _ _ _ _ _ _ _ h full c.cut.ensures))
    c.in_ok-send_full.ensures.empty c.in_ok-send_full.ensures.sound

pub returns : goal.returns
returns g c =
    record {
      writes = progress-end g.W.Target.stream g.E.Endianness.order (code_bits c.args.word) _ _ _ c.loop-left.left _ _
          (some g (goal.at.returns g c).After-put-all) c.loop-left.invariant c.loop-left-test.false refl
          c.loop-left.invariant.sound refl c.cut-2.ensures;
    }
