use Rattle.std.proofs.Common.{rules}
use Rattle.bitstream_number.proofs.Bytes.{from_le_bytes_back}
use Rattle.bitstream_number.proofs.number.types.u128.U128Primitive.from_le_bytes.Goals as goal

pub returns : goal.returns
returns c = from_le_bytes_back 15 c.args.bytes c.from_le_bytes.result (search rules) (search rules)
    c.from_le_bytes.ensures
