use Rattle.bitstream_format.proofs.InBytesLemmas.{low_bytes-written}
use Rattle.bitstream_format.proofs.in_bytes.write_four_bytes.Goals as goal

pub returns : goal.returns
returns g c = low_bytes-written _ _ g.F.Endianness.order 4 c.args.number _ _ _ c.write_in_bytes.ensures
