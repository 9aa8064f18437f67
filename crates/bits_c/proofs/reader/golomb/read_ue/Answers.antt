use Rattle.std.proofs.Common.{◌≡◌, ◌∙◌, ◌+◌, ◌-◌, ◌*◌, ◌%◌, ◌^◌, ◌<◌, ◌≤◌, ℕ, true, take, drop, refl, sym, ap, subst, arith}
use Rattle.std.proofs.lemmas.Nat.{one_shl}
use Rattle.bitstream_io.specs.Callers.{bits, number}
use Rattle.bitstream_io.proofs.WordLemmas.{length-bits}
use Rattle.bits_c.specs.Reader.{HasLeft, golomb, leading}
use Rattle.bits_c.proofs.BitLemmas.{golomb-below, lead-few, lead-found}
use Rattle.bits_c.proofs.ReaderLemmas.{part_below}
use Rattle.bits_c.proofs.reader.golomb.read_ue.Goals as goal

pub returns-then-not-has-2-clause-long : goal.returns-then-not-has-2-clause-long
returns-then-not-has-2-clause-long g c = λ long room.
    let less = lead-few c.lead_at-zeros.result c.min.result c.all_left.result
    (leading g.O.Endianness.order true c.args.reader.now) c.lead_at-zeros.ensures.most c.lead_at-zeros.ensures.stops
    c.min.ensures c.if-zeros-gt31.false long in
    let most = c.all_left.ensures.most _ room in
    absurd (omega (arith, less, most))

pub overflow_add-result : goal.overflow_add-result
overflow_add-result g c =
    let o = g.O.Endianness.order in
    let reader = c.args.reader.now in
    let has = c.has-2.ensures.0 c.if-not-has-2.false in
    let there = has.0 in
    let size = c.from.ensures in
    let place = c.from-2.ensures in
    let long = length-bits o reader.bytes.now in
    let few : c.lead_at-zeros.result < 64 = omega (arith, c.if-zeros-gt31.false) in
    let rest : c.number_at-rest.result < 2 ^ c.lead_at-zeros.result =
    part_below o c.lead_at-zeros.result _ c.number_at-rest.result (bits o reader.bytes.now)
    (omega (arith, there, size, place, long)) c.number_at-rest.ensures in
    let below = golomb-below c.lead_at-zeros.result c.number_at-rest.result c.if-zeros-gt31.false rest in
    record { fits = rw (one_shl c.lead_at-zeros.result 64 few) (omega (arith, below)) }

pub returns-clause-below : goal.returns-clause-below
returns-clause-below g c =
    let o = g.O.Endianness.order in
    let reader = c.args.reader.now in
    let has = c.has-2.ensures.0 c.if-not-has-2.false in
    let there = has.0 in
    let size = c.from.ensures in
    let place = c.from-2.ensures in
    let long = length-bits o reader.bytes.now in
    let few : c.lead_at-zeros.result < 64 = omega (arith, c.if-zeros-gt31.false) in
    let rest : c.number_at-rest.result < 2 ^ c.lead_at-zeros.result =
    part_below o c.lead_at-zeros.result _ c.number_at-rest.result (bits o reader.bytes.now)
    (omega (arith, there, size, place, long)) c.number_at-rest.ensures in
    let below = golomb-below c.lead_at-zeros.result c.number_at-rest.result c.if-zeros-gt31.false rest in
    rw (one_shl c.lead_at-zeros.result 64 few) below

pub returns-clause-there : goal.returns-clause-there
returns-clause-there g c = λ short left.
    let o = g.O.Endianness.order in
    let reader = c.args.reader.now in
    let z = c.lead_at-zeros.result in
    let has = c.has-2.ensures.0 c.if-not-has-2.false in
    let size = c.from.ensures in
    let most = c.all_left.ensures.most _ has in
    let room : 2 * c.lead_at-zeros.result + 1 ≤ c.all_left.result = omega (arith, most, size) in
    let is = lead-found z c.min.result c.all_left.result (leading o true reader) c.lead_at-zeros.ensures.most
    c.lead_at-zeros.ensures.stops c.min.ensures c.if-zeros-gt31.false room in
    let xs = bits o reader.bytes.now in
    let few : c.lead_at-zeros.result < 64 = omega (arith, c.if-zeros-gt31.false) in
    let value : 1 * 2 ^ c.lead_at-zeros.result % 18446744073709551616 - 1 + c.number_at-rest.result ≡ golomb o reader =
    ap (λ (k : ℕ). k - 1 + c.number_at-rest.result) (one_shl c.lead_at-zeros.result 64 few)
    ∙ ap (λ (k : ℕ). 2 ^ z - 1 + k) (c.number_at-rest.ensures
    ∙ ap (λ (k : ℕ). number o (take z (drop (reader.at + k + 1) xs))) c.from-2.ensures)
    ∙ ap (λ (k : ℕ). 2 ^ k - 1 + number o (take k (drop (reader.at + k + 1) xs))) (sym is) in
    let count = c.from-3.ensures in
    (cc, record { bytes = refl; at = ap (λ (k : ℕ). reader.at + k) (count ∙ ap (λ (k : ℕ). 2 * k + 1) (sym is)) })

pub returns-clause-short : goal.returns-clause-short
returns-clause-short g c = λ few none.
    let o = g.O.Endianness.order in
    let reader = c.args.reader.now in
    let z = c.lead_at-zeros.result in
    let has = c.has-2.ensures.0 c.if-not-has-2.false in
    let size = c.from.ensures in
    let most = c.all_left.ensures.most _ has in
    let room : 2 * c.lead_at-zeros.result + 1 ≤ c.all_left.result = omega (arith, most, size) in
    let is = lead-found z c.min.result c.all_left.result (leading o true reader) c.lead_at-zeros.ensures.most
    c.lead_at-zeros.ensures.stops c.min.ensures c.if-zeros-gt31.false room in
    absurd (none (subst (λ (k : ℕ). HasLeft reader k) (size ∙ ap (λ (k : ℕ). 2 * k + 1) (sym is)) has))

pub returns-clause-long : goal.returns-clause-long
returns-clause-long g c = λ long left.
    let o = g.O.Endianness.order in
    let reader = c.args.reader.now in
    let z = c.lead_at-zeros.result in
    let has = c.has-2.ensures.0 c.if-not-has-2.false in
    let size = c.from.ensures in
    let most = c.all_left.ensures.most _ has in
    let room : 2 * c.lead_at-zeros.result + 1 ≤ c.all_left.result = omega (arith, most, size) in
    let is = lead-found z c.min.result c.all_left.result (leading o true reader) c.lead_at-zeros.ensures.most
    c.lead_at-zeros.ensures.stops c.min.ensures c.if-zeros-gt31.false room in
    let few = c.if-zeros-gt31.false in
    absurd (omega (arith, long, is, few))

pub returns-clause-far : goal.returns-clause-far
returns-clause-far g c = λ long none.
    let o = g.O.Endianness.order in
    let reader = c.args.reader.now in
    let z = c.lead_at-zeros.result in
    let has = c.has-2.ensures.0 c.if-not-has-2.false in
    let size = c.from.ensures in
    let most = c.all_left.ensures.most _ has in
    let room : 2 * c.lead_at-zeros.result + 1 ≤ c.all_left.result = omega (arith, most, size) in
    let is = lead-found z c.min.result c.all_left.result (leading o true reader) c.lead_at-zeros.ensures.most
    c.lead_at-zeros.ensures.stops c.min.ensures c.if-zeros-gt31.false room in
    let few = c.if-zeros-gt31.false in
    absurd (omega (arith, long, is, few))
