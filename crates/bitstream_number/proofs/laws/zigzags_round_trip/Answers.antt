use Rattle.bitstream_number.proofs.SignedLemmas.{zag-zig, zig-zag}
use Rattle.bitstream_number.proofs.laws.zigzags_round_trip.Goals as goal

pub returns-clause-signed : goal.returns-clause-signed
returns-clause-signed c = zag-zig

pub returns-clause-unsigned : goal.returns-clause-unsigned
returns-clause-unsigned c = zig-zag
