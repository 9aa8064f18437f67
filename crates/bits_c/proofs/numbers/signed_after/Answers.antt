use Rattle.bitstream_io.proofs.CallerLemmas.{fields_there, slice_ends}
use Rattle.std.proofs.Common.{refl}
use Rattle.bitstream_io.specs.Callers.{bits}
use Rattle.bits_c.proofs.ReaderLemmas.{signed-found}
use Rattle.bits_c.proofs.numbers.signed_after.Goals as goal

pub returns : goal.returns
returns g c = fields_there slice_ends c.over.ensures.state refl c.read_signed_after.ensures (signed-found (bits
    g.O.Endianness.order c.args.bytes.now) g.O.Endianness.order c.args.skipped c.args.width c.requires.some c.requires.few) c.requires.there
