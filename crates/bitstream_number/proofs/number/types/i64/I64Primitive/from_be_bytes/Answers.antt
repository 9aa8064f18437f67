use Rattle.std.proofs.Common.{rules, ap, ◌∙◌, ◌<◌, ◌^◌}
use Rattle.std.specs.Int.{w64}
use Rattle.bitstream_number.specs.Word.{High, bytes}
use Rattle.bitstream_number.proofs.Bytes.{from_be_bytes_back}
use Rattle.bitstream_number.proofs.Casts.{cast_back}
use Rattle.bitstream_number.proofs.number.types.i64.I64Primitive.from_be_bytes.Goals as goal

pub returns : goal.returns
returns c =
    let n = c.from_be_bytes.result in
    let below : n < 2 ^ 64 = search rules in
    ap (bytes High 8) (cast_back w64 n c.cast_signed.result below c.cast_signed.ensures)
    ∙ from_be_bytes_back 7 c.args.bytes n (search rules) (search rules) c.from_be_bytes.ensures
