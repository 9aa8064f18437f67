use Rattle.std.proofs.Common.{refl, arith}
use Rattle.bitstream_number.proofs.WordLemmas.{length-word}
use Rattle.bitstream_stream.proofs.Writing.WriterLemmas.{queue_small, pushed_queue, pushed_bytes, pushed_fault, pushes_lost}
use Rattle.bitstream_stream.proofs.write.writer.BitWriter.push.Goals as goal

pub invariant_of-self-clause-few : goal.invariant_of-self-clause-few
invariant_of-self-clause-few g c = omega arith

pub invariant_of-self-clause-small : goal.invariant_of-self-clause-small
invariant_of-self-clause-small g c =
    queue_small g.E.Endianness.order c.args.self.now.queued c.args.self.now.queue c.args.n
    (g.U.UnsignedInteger.value c.args.value) _ _ c.args.self.now.small c.cut-part.ensures c.put-self.ensures

pub returns-then-self-n-lt8-clause-pushes : goal.returns-then-self-n-lt8-clause-pushes
returns-then-self-n-lt8-clause-pushes g c =
    pushed_queue _ g.E.Endianness.order c.args.self.now.queued c.args.self.now.queue c.args.n
    (g.U.UnsignedInteger.value c.args.value) _ _ _ _ _ c.args.self.now.small c.cut-part.ensures c.put-self.ensures
    c.requires.sound

pub returns-in-Ok-clause-pushes : goal.returns-in-Ok-clause-pushes
returns-in-Ok-clause-pushes g c =
    pushed_bytes _ g.E.Endianness.order c.args.self.now.queued c.args.self.now.queue c.args.n
    (g.U.UnsignedInteger.value c.args.value) c.in-Ok.gone _ _ _ _ _ c.in-Ok.ensures.sends c.in-Ok.ensures.within
    c.cut-self.ensures c.requires.sound

pub returns-in-Err-clause-pushes : goal.returns-in-Err-clause-pushes
returns-in-Err-clause-pushes g c =
    let queue = length-word g.E.Endianness.order c.args.self.now.queued c.args.self.now.queue in
    let word = length-word g.E.Endianness.order c.args.n (g.U.UnsignedInteger.value c.args.value) in
    pushes_lost _ g.E.Endianness.order _ _ _ _ _ _ c.refuse.ensures.answer c.refuse.ensures.fails
    (pushed_fault _ g.E.Endianness.order c.args.self.now.queued c.args.self.now.queue c.args.n
    (g.U.UnsignedInteger.value c.args.value) _ _ _ _ _ _ _ c.in-Err.ensures.sends c.args.self.now.few (omega arith)
    (omega (arith, queue, word)) refl)
