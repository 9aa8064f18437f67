use Rattle.std.proofs.Common.{ap, arith, sym, ◌∙◌, ◌++◌, ◌∷◌, [], List, Bool}
use Rattle.bitstream_number.specs.Word.{High, Low}
use Rattle.bitstream_stream.proofs.Writing.CodeWordLemmas.{code_bits-length, pushed-below, pushed-word}
use Rattle.bitstream_stream.proofs.write.code_word.CodeWord.push.Goals as goal

pub invariant_of-self : goal.invariant_of-self
invariant_of-self c =
    let w = c.args.self.now in
    let size = code_bits-length w in
    let room = c.requires in
    record {
      few = omega (arith, size, room);
      small_high = pushed-below High w.bits w.high _ _ c.args.bit w.small_high c.from-one.ensures c.put.ensures;
      small_low = pushed-below Low w.bits w.low _ _ c.args.bit w.small_low c.from-one.ensures c.put-2.ensures;
      same = pushed-word Low w.bits w.low _ _ c.args.bit w.small_low c.from-one.ensures c.put-2.ensures
          ∙ ap (λ (x : List Bool). x ++ c.args.bit ∷ []) w.same
          ∙ sym (pushed-word High w.bits w.high _ _ c.args.bit w.small_high c.from-one.ensures c.put.ensures);
    }

pub returns : goal.returns
returns c =
    let w = c.args.self.now in
    pushed-word High w.bits w.high _ _ c.args.bit w.small_high c.from-one.ensures c.put.ensures
