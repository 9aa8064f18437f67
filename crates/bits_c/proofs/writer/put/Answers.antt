use Rattle.std.proofs.Common.{◌≡◌, ◌∙◌, ◌+◌, ◌-◌, ◌%◌, ◌≤◌, ap, sym, arith, take_all}
use Rattle.bitstream_io.specs.Callers.{bits, word}
use Rattle.bitstream_io.proofs.WordLemmas.{length-word}
use Rattle.bits_c.specs.Writer.{replaced}
use Rattle.bits_c.proofs.PutLemmas.{piece-below, put-step, replaced-none}
use Rattle.bits_c.proofs.writer.put.Goals as goal

pub loop-done-init : goal.loop-done-init
loop-done-init g c =
    let o = g.O.Endianness.order in
    record { most = omega arith; put = sym (replaced-none c.args.at (bits o c.args.bytes.now)) }

pub loop-done-preserved : goal.loop-done-preserved
loop-done-preserved g c =
    let o = g.O.Endianness.order in
    let less = c.loop-done-test.true in
    let most = c.loop-done.invariant.most in
    let is : c.args.at + c.from.result ≡ c.args.at + c.loop-done.done = omega (arith, c.from.ensures) in
    let few : c.min-count.result ≤ 8 - (c.args.at + c.from.result) % 8 = omega (arith, c.min-count.ensures) in
    let le : c.loop-done.done + c.min-count.result ≤ c.args.width = omega (arith, c.min-count.ensures, most) in
    record {
      most = le;
      put = put-step o c.args.at c.args.width c.args.value c.loop-done.done c.min-count.result (c.args.at + c.from.result)
          c.put_in.result c.cut-part.result c.loop-done.bytes c.args.bytes.now is few less le c.requires.there
          c.loop-done.auto.bytes c.cut-part.ensures c.put_in.ensures c.loop-done.invariant.put;
    }

pub put_in-requires-clause-fits : goal.put_in-requires-clause-fits
put_in-requires-clause-fits g c = rw c.cut-part.ensures (piece-below _ _ _ _ _)

pub returns : goal.returns
returns g c =
    let o = g.O.Endianness.order in
    let w = word o c.args.width c.args.value in
    let long = length-word o c.args.width c.args.value in
    let most = c.loop-done.invariant.most in
    let end = c.loop-done-test.false in
    c.loop-done.invariant.put
    ∙ ap (λ it. replaced c.args.at it (bits o c.args.bytes.now)) (take_all c.loop-done.done w (omega (arith, long, most, end)))
