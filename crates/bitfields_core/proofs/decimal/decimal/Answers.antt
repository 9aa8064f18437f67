use Rattle.std.proofs.Common.{◌≡◌, ◌+◌, ◌^◌, ◌<◌, length, true, arith}
use Rattle.bitfields_core.specs.Decimal.{is_decimal}
use Rattle.bitfields_core.proofs.DecimalLemmas.{one_more, too_great, digit_at}
use Rattle.std.proofs.lemmas.Str.Parse.{digits_value-take-le}
use Rattle.bitfields_core.proofs.decimal.decimal.Goals as goal

pub returns-then-value-digit : goal.returns-then-value-digit
returns-then-value-digit c =
    let ok : is_decimal c.args.text.now ≡ true = cc in
    let i = c.loop-byte.byte-index in
    let h : i < length c.args.text.now = omega arith in
    let r = digit_at c.args.text.now i ok h in
    let more = one_more c.args.text.now i c.from-digit.result c.loop-byte.value ok h c.loop-byte.invariant
    (omega (arith, r, c.from-digit.ensures)) in
    let least = digits_value-take-le 10 c.args.text.now (i + 1) (omega arith) in
    too_great c.args.text.now (2 ^ 128) ok (omega (arith, more, least))

pub loop-byte-preserved : goal.loop-byte-preserved
loop-byte-preserved c =
    let ok : is_decimal c.args.text.now ≡ true = cc in
    let i = c.loop-byte.byte-index in
    let h : i < length c.args.text.now = omega arith in
    let r = digit_at c.args.text.now i ok h in
    one_more c.args.text.now i c.from-digit.result c.loop-byte.value ok h c.loop-byte.invariant
    (omega (arith, r, c.from-digit.ensures))
