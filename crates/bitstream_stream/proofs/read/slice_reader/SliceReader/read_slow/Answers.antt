use Rattle.std.proofs.Common.{◌*◌, ◌+◌, ◌<◌, length, inl, inr}
use Rattle.std.proofs.lemmas.Bool.{cases_lt}
use Rattle.bitstream_stream.proofs.Reading.MemoryLemmas.{number_read, word_refused}
use Rattle.bitstream_stream.proofs.read.slice_reader.SliceReader.read_slow.Goals as goal

pub returns-then-has-clause-reads : goal.returns-then-has-clause-reads
returns-then-has-clause-reads g c = number_read _ _ c.args.bits _ c.args.self.now _ c.requires.fine c.requires.room c.take_word.ensures

pub returns-else-has-clause-reads : goal.returns-else-has-clause-reads
returns-else-has-clause-reads g c =
    let short : 8 * length c.args.self.now.bytes.now < c.args.self.now.bit + c.args.bits =
    elim (cases_lt (8 * length c.args.self.now.bytes.now) (c.args.self.now.bit + c.args.bits)) [
      | inl less ↦ less
      | inr le ↦ let yes = c.has.ensures.1 le in let no = c.if-has.false in cc
    ] in
    rw c.refuse.ensures.error (word_refused _ _ c.args.bits c.args.self.now _ c.requires.fine c.requires.room short c.refuse.ensures.state)
