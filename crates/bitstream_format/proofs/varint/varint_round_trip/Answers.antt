use Rattle.bitstream_format.specs.VarintLaws.{varint-back}
use Rattle.bitstream_format.proofs.varint.varint_round_trip.Goals as goal

pub returns : goal.returns
returns c = λ o value at from more small. (varint-back o value small).back at from more
