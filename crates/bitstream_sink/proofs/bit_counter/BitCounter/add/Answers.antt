use Rattle.std.proofs.Common.{◌≡◌, ℕ, ◌+◌, ◌<◌, ◌≤◌, true, false, inl, inr, refl, ap, arith}
use Rattle.std.proofs.lemmas.Bool.{cases_lt, false≢true}
use Rattle.bitstream_stream.proofs.Shared.{exit_is}
use Rattle.bitstream_sink.proofs.CountLemmas.{counted, overflowed}
use Rattle.bitstream_sink.proofs.bit_counter.BitCounter.add.Goals as goal

pub returns-in_err-bits : goal.returns-in_err-bits
returns-in_err-bits g c = λ entry x is len.
    let past : g.N.Counter.greatest < g.N.Counter.value c.args.self.now.count + c.args.bits =
    omega (arith, c.in_err-bits.ensures) in
    overflowed g.E.Endianness.order (λ w. g.N.Counter.value w.count) g.N.Counter.greatest g.N.Counter.full (λ w. w.within) entry _ _ _ x
    c.args.bits is len (exit_is _ c.from_residual.ensures.1) past refl

-- a sum that failed is above the greatest number
refused : (n greatest : ℕ) → (n ≤ greatest → false ≡ true) → greatest < n
refused n greatest h = elim (cases_lt greatest n) [ inl past ↦ past | inr fits ↦ absurd (false≢true (h fits)) ]

pub returns-in_err-checked_add_assign : goal.returns-in_err-checked_add_assign
returns-in_err-checked_add_assign g c = λ entry x is len.
    let value = g.N.Counter.value in
    let past : g.N.Counter.greatest < value c.args.self.now.count + c.args.bits =
    omega (arith, refused _ _ c.in_err-checked_add_assign.ensures.holds.1, c.in_ok-bits.ensures.0) in
    overflowed g.E.Endianness.order (λ w. value w.count) g.N.Counter.greatest g.N.Counter.full (λ w. w.within) entry _ _ _ x c.args.bits
    is len
    (exit_is _ c.from_residual-in_err-checked_add_assign.ensures.1) past
    (ap value c.in_err-checked_add_assign.ensures.unchanged)

pub returns : goal.returns
returns g c = λ entry x is len.
    let value = g.N.Counter.value in
    counted g.E.Endianness.order (λ w. value w.count) g.N.Counter.greatest g.N.Counter.full (λ w. w.within) entry _ _ _ x c.args.bits _
    is len refl (omega (arith, c.in_ok-checked_add_assign.ensures.sum, c.in_ok-bits.ensures.0))
