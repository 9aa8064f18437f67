use Rattle.std.proofs.Common.{rules}
use Rattle.bitstream_number.proofs.Bytes.{from_be_bytes_back}
use Rattle.bitstream_number.proofs.number.types.u64.U64Primitive.from_be_bytes.Goals as goal

pub returns : goal.returns
returns c = from_be_bytes_back 7 c.args.bytes c.from_be_bytes.result (search rules) (search rules)
    c.from_be_bytes.ensures
