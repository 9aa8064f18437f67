use Rattle.std.proofs.Common.{arith, refl}
use Rattle.bitstream_stream.proofs.Reading.ReaderLemmas.{unsigned-failed, unsigned-refused}
use Rattle.bitstream_stream.proofs.Reading.MemoryLemmas.{number_read, word_refused}
use Rattle.bitstream_stream.proofs.Reading.MemoryWords.{fetched, fits_in, taken_as}
use Rattle.bitstream_stream.proofs.read.slice_reader.SliceReader.read_word.Goals as goal

pub returns-then-self-clause-reads : goal.returns-then-self-clause-reads
returns-then-self-clause-reads g c = unsigned-failed _ _ _ _ c.if-self.true

pub returns-then-bits-BITS_SIZE-clause-reads : goal.returns-then-bits-BITS_SIZE-clause-reads
returns-then-bits-BITS_SIZE-clause-reads g c = unsigned-refused _ _ _ _ c.if-self.false (omega arith)

pub from_u64-requires : goal.from_u64-requires
from_u64-requires g c =
    let small = c.if-bits-gt56.false in
    let few = c.args.self.now.few in
    let taken = fetched g.E.Endianness.order c.args.bits _ _ c.args.self.now c.go_on.new.self (omega (arith, small, few))
    c.in-Some.ensures.some.1 c.middle-word.ensures c.go_on.ensures in
    fits_in c.args.bits _ _ (omega arith) taken.below

pub returns-in-Some-clause-reads : goal.returns-in-Some-clause-reads
returns-in-Some-clause-reads g c =
    let small = c.if-bits-gt56.false in
    let few = c.args.self.now.few in
    let taken = fetched g.E.Endianness.order c.args.bits _ _ c.args.self.now c.go_on.new.self (omega (arith, small, few))
    c.in-Some.ensures.some.1 c.middle-word.ensures c.go_on.ensures in
    number_read _ _ c.args.bits _ c.args.self.now _ c.if-self.false (omega arith)
    (taken_as _ c.args.bits c.args.bits _ _ c.args.self.now _ refl c.from_u64.ensures taken)

pub returns-in-None-clause-reads : goal.returns-in-None-clause-reads
returns-in-None-clause-reads g c =
    let short = c.in-None.ensures.none refl in
    rw c.refuse.ensures.error
    (word_refused _ _ c.args.bits c.args.self.now _ c.if-self.false (omega arith) short c.refuse.ensures.state)
