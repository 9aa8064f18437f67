use Rattle.std.proofs.Common.{◌∙◌, ap, None}
use Rattle.bitstream_stream.specs.Sequence.{write_sequence, write_refusals}
use Rattle.bitstream_io.specs.Script.{write_encoders}
use Rattle.bitstream_io.proofs.SequenceLemmas.{write_sequence-append, write_refusals-append}
use Rattle.bitstream_io.proofs.ScriptLemmas.{encoders-append}
use Rattle.bitstream_io.proofs.script.laws.write_sequences_join.Goals as goal

pub returns-clause-words : goal.returns-clause-words
returns-clause-words c o first second len =
    ap (λ es. write_sequence es len) (encoders-append None o first second)
    ∙ write_sequence-append (write_encoders None o first) (write_encoders None o second) len

pub returns-clause-answers : goal.returns-clause-answers
returns-clause-answers c o first second len =
    ap (λ es. write_refusals es len) (encoders-append None o first second)
    ∙ write_refusals-append (write_encoders None o first) (write_encoders None o second) len
