use Rattle.std.proofs.Common.{arith, ◌≡◌, ◌∙◌, ◌+◌, ◌-◌, ◌≤◌, length, drop, ap}
use Rattle.std.specs.Io.KnownBytes.{prepend_known}
use Rattle.flac_codec.specs.Input.{bytes_left, fetched}
use Rattle.flac_codec.proofs.StartLemmas.{skips-after}
use Rattle.flac_codec.proofs.start.skip.Goals as goal

pub loop-rest-preserved : goal.loop-rest-preserved
loop-rest-preserved g c =
    let size = c.min-size.result in
    let rest = c.loop-rest.rest in
    let got = fetched c.fill.new.self in
    let before = c.loop-rest.invariant.0 in
    let same : length c.bytes.result.now ≡ length got = ap length c.bytes.ensures in
    let less : size ≤ length got = omega (arith, c.min-size.ensures, same) in
    let few : size ≤ rest = omega (arith, c.min-size.ensures) in
    let count : c.args.count - (rest - size) ≡ (c.args.count - rest) + size = omega (arith, before, few) in
    let left : bytes_left g.R.Read.remaining c.take.new.self ≡ prepend_known (drop size got) (g.R.Read.remaining c.fill.new.self.reader) =
    ap (λ xs. prepend_known xs (g.R.Read.remaining c.take.new.self.reader)) c.take.ensures.fetched
    ∙ ap (prepend_known (drop size got)) (ap g.R.Read.remaining c.take.ensures.reader) in (
      omega (arith, before),
      skips-after (bytes_left g.R.Read.remaining c.args.input.now) (bytes_left g.R.Read.remaining c.loop-rest.input)
          (bytes_left g.R.Read.remaining c.take.new.self) got (g.R.Read.remaining c.fill.new.self.reader) (c.args.count - rest)
          size (c.args.count - (rest - size)) c.loop-rest.invariant.1 c.in_ok-fill.ensures.left less left count,
    )
