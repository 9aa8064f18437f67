use Rattle.std.proofs.Common.{ap, ◌∙◌, ◌≡◌, ◌≤◌, arith, min}
use Rattle.bitstream_count.proofs.Checks.{lowest-lt}
use Rattle.bitstream_count.proofs.count.signed_bit_count.SignedBitCount.range.Goals as goal

pub as_non_negative-end-requires : goal.as_non_negative-end-requires
as_non_negative-end-requires g c =
    let n : c.bits-bits.result ≡ min c.self.inside.count g.S.Numeric.BITS_SIZE = c.bits-bits.ensures.value
    ∙ c.min.ensures ∙ ap (min c.self.inside.count) c.BITS_SIZE.ensures in
    let size = g.met.S.SignedInteger.same_size_law in
    let within : c.bits-bits.result ≤ g.S.Unsigned.Numeric.BITS_SIZE = omega (arith, n, size) in
    lowest-lt _ c.bits-bits.result g.S.Unsigned.Numeric.BITS_SIZE within c.lowest_bits.ensures
