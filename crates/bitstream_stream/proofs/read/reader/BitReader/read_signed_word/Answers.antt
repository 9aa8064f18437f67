use Rattle.std.proofs.Common.{arith, refl}
use Rattle.bitstream_stream.proofs.Reading.SignedLemmas.{signed-failed, signed-bare, signed-stops, signed-was_done, unsigned-below, unsigned-within, map_is}
use Rattle.bitstream_stream.proofs.read.reader.BitReader.read_signed_word.Goals as goal

pub returns-then-self-clause-reads : goal.returns-then-self-clause-reads
returns-then-self-clause-reads g c = signed-failed _ _ _ _ c.if-self.true

pub returns-then-bits-eq0-clause-reads : goal.returns-then-bits-eq0-clause-reads
returns-then-bits-eq0-clause-reads g c = signed-bare _ _ _ _ (omega arith) c.if-self.false

pub returns-then-bits-eq0-clause-asks : goal.returns-then-bits-eq0-clause-asks
returns-then-bits-eq0-clause-asks g c = (omega arith, λ _. refl)

pub returns-in_err-word-clause-reads : goal.returns-in_err-word-clause-reads
returns-in_err-word-clause-reads g c =
    rw (← g.met.S.SignedInteger.same_size_law)
    (signed-stops _ _ _ (omega arith) (map_is _ g.S.Numeric.integer c.from_residual.result c.from_residual.ensures.1)
    c.in_err-word.ensures.reads)

pub signed_of-requires-clause-within : goal.signed_of-requires-clause-within
signed_of-requires-clause-within g c =
    let within = unsigned-within _ _ _ _ c.in_ok-word.ensures.reads in
    omega (arith, g.met.S.SignedInteger.same_size_law, within)

pub signed_of-requires-clause-below : goal.signed_of-requires-clause-below
signed_of-requires-clause-below g c = unsigned-below _ _ _ _ c.in_ok-word.ensures.reads

pub returns-clause-reads : goal.returns-clause-reads
returns-clause-reads g c =
    rw (← g.met.S.SignedInteger.same_size_law)
    (signed-was_done _ _ _ _ _ (omega arith) c.signed_of.ensures c.in_ok-word.ensures.reads)
