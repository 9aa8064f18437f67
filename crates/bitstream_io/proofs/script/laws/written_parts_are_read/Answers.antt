use Rattle.bitstream_io.proofs.CallsBack.{then-read}
use Rattle.bitstream_io.proofs.script.laws.written_parts_are_read.Goals as goal

pub returns : goal.returns
returns g c = λ first next a b writes others h k. then-read first next writes others a b h k
