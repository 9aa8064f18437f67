use Rattle.std.proofs.Common.{◌≡◌, ◌∙◌, ap, arith, length}
use Rattle.bitstream_io.proofs.PlaceLemmas.{is_at}
use Rattle.bitstream_io.proofs.SoughtLemmas.{sought}
use Rattle.bitstream_io.proofs.symbols.read.go_to.Goals as goal

pub returns : goal.returns
returns g c =
    let o = g.E.Endianness.order in
    let old = c.args.reader.now in
    let new = c.seek_bits-sought.new.self in
    let spot = c.args.spot.now in
    let size : length old.all.now ≡ length spot.bytes.now = ap (λ l. length l) c.requires in
    let few = spot.few in
    let within = spot.within in
    let last = sought o spot.place old new (omega (arith, within, size)) _ (omega (arith, within, few))
    c.seek_bits-sought.ensures in
    is_at o new spot.bytes.now spot.place old.refusals.list last.failed (last.bytes ∙ c.requires) last.taken last.refusals
