use Rattle.std.proofs.Common.{rules, ap, ◌∙◌, ◌<◌, ◌^◌}
use Rattle.std.specs.Int.{w128}
use Rattle.bitstream_number.specs.Word.{High, bytes}
use Rattle.bitstream_number.proofs.Bytes.{from_be_bytes_back}
use Rattle.bitstream_number.proofs.Casts.{cast_back}
use Rattle.bitstream_number.proofs.number.types.i128.I128Primitive.from_be_bytes.Goals as goal

pub returns : goal.returns
returns c =
    let n = c.from_be_bytes.result in
    let below : n < 2 ^ 128 = search rules in
    ap (bytes High 16) (cast_back w128 n c.cast_signed.result below c.cast_signed.ensures)
    ∙ from_be_bytes_back 15 c.args.bytes n (search rules) (search rules) c.from_be_bytes.ensures
