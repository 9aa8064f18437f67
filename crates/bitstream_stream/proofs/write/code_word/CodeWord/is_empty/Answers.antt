use Rattle.std.proofs.Common.{ap, length, sym, ◌∙◌}
use Rattle.std.proofs.lemmas.Bool.{eq-eqb, eqb-true}
use Rattle.bitstream_stream.proofs.Writing.CodeWordLemmas.{code_bits-length, empty-if}
use Rattle.bitstream_stream.proofs.write.code_word.CodeWord.is_empty.Goals as goal

pub returns : goal.returns
returns c =
    let w = c.args.self.now in (
      λ test. empty-if w (eqb-true w.bits 0 test),
      λ none. eq-eqb w.bits 0 (sym (code_bits-length w) ∙ ap (λ x. length x) none),
    )
