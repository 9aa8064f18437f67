use Rattle.std.proofs.Common.{arith, ◌+◌, ◌*◌, ◌<◌, ◌≤◌, length, inl, inr}
use Rattle.std.proofs.lemmas.Bool.Decides.{eqb_tells}
use Rattle.bitstream_stream.proofs.Reading.ReaderLemmas.{unsigned-failed}
use Rattle.bitstream_stream.proofs.Reading.MemoryLemmas.{number_read, word_refused}
use Rattle.bitstream_stream.proofs.Reading.MemoryWindows.{first_agree}
use Rattle.bitstream_stream.proofs.Reading.MemoryWords.{fetched}
use Rattle.bitstream_stream.proofs.read.slice_reader.SliceReader.read_one.Goals as goal

pub returns-then-self-clause-reads : goal.returns-then-self-clause-reads
returns-then-self-clause-reads g c = unsigned-failed _ _ _ _ c.if-self.true

pub returns-then-is_empty-clause-reads : goal.returns-then-is_empty-clause-reads
returns-then-is_empty-clause-reads g c =
    let short : 8 * length c.args.self.now.bytes.now < c.args.self.now.bit + 1 =
    elim (eqb_tells (length c.args.self.now.bytes.now) 0) [
      | inl same ↦ let e = same.1 in omega arith
      | inr other ↦
          let no = other.0 in let is = c.is_empty.ensures in let yes = c.if-is_empty.true in cc
    ] in
    rw c.refuse.ensures.error
    (word_refused _ 64 1 c.args.self.now _ c.if-self.false (omega arith) short c.refuse.ensures.state)

pub returns-clause-reads : goal.returns-clause-reads
returns-clause-reads g c =
    let few = c.args.self.now.few in
    let o = g.E.Endianness.order in
    let there : 1 ≤ length c.args.self.now.bytes.now =
    elim (eqb_tells (length c.args.self.now.bytes.now) 0) [
      | inl same ↦
          let yes = same.0 in let is = c.is_empty.ensures in let no = c.if-is_empty.false in cc
      | inr other ↦ let ne = other.1 in omega arith
    ] in
    number_read o 64 1 _ c.args.self.now _ c.if-self.false (omega arith)
    (fetched o 1 _ _ c.args.self.now c.go_on.new.self (omega (arith, few))
    (first_agree o c.args.self.now.bytes.now 1 (c.args.self.now.bit + 1) c.load_first.result there (omega (arith, few))
    (omega arith) c.load_first.ensures) c.middle-bit.ensures c.go_on.ensures)
