use Rattle.std.proofs.Common.{rules, ◌≡◌, length, inl}
use Rattle.std.specs.Io.KnownBytes.{Consumes}
use Rattle.bitfields_core.proofs.RepackingLemmas.{one_byte}
use Rattle.bitfields_core.proofs.repacking.expect_end.Goals as goal

pub returns-in-Ok : goal.returns-in-Ok
returns-in-Ok g c =
    let known = g.R.Source.stream.remaining in
    let size : length c.read_exact.new.buf ≡ 1 = search rules in
    let one = one_byte c.read_exact.new.buf size in
    let took : Consumes (known c.args.input.now) (known c.read_exact.new.self) c.read_exact.new.buf = search rules in
    inl (one.0, rw one.1 at took, c.new.ensures)
