use Rattle.bitstream_stream.specs.Writing.CodeWord.{code_bits}
use Rattle.bitstream_sink.proofs.RecorderLemmas.{forwarded_bits, holds_each, no_bits}
use Rattle.bitstream_sink.proofs.recorder.BitRecorderBitWrite.write_code_word.Goals as goal

pub returns-then-is_empty : goal.returns-then-is_empty
returns-then-is_empty g c = record {
  writes = no_bits g.E.Endianness.order (code_bits c.args.word) _ (c.is_empty.ensures.0 c.if-is_empty.true);
}

pub invariant_of-self : goal.invariant_of-self
invariant_of-self g c = record { all = holds_each _ _ _ _ _ c.args.self.now.all c.write_code_word.ensures.writes }

pub returns : goal.returns
returns g c = record {
  writes = forwarded_bits g.E.Endianness.order (code_bits c.args.word) _ _ _ (λ none.
      let yes = c.is_empty.ensures.1 none in
      let no = c.if-is_empty.false in
      cc) c.write_code_word.ensures.writes;
}
