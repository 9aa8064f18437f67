use Rattle.std.proofs.Common.{ap, sym, ◌∙◌, ◌<◌}
use Rattle.bitstream_count.specs.Unary.{lead}
use Rattle.bitstream_number.specs.Word.{Low, word}
use Rattle.bitstream_order.proofs.Moving.LeadLemmas.{trailing_zeros_is, trailing_ones_is}
use Rattle.bitstream_order.proofs.order.LittleEndianEndianness.run_length.Goals as goal

pub returns-then-stop : goal.returns-then-stop
returns-then-stop c =
    let byte : c.args.byte < 256 = c.ranges.byte.fits in
    trailing_zeros_is c.args.byte byte ∙ ap (λ s. lead s (word Low 8 c.args.byte)) (sym c.if-stop.true)

pub returns-else-stop : goal.returns-else-stop
returns-else-stop c =
    let byte : c.args.byte < 256 = c.ranges.byte.fits in
    c.trailing_ones.ensures ∙ trailing_ones_is c.args.byte byte
    ∙ ap (λ s. lead s (word Low 8 c.args.byte)) (sym c.if-stop.false)
