use Rattle.std.proofs.Common.{◌∙◌, refl, sym, false}
use Rattle.std.proofs.lemmas.List.{length-replicate}
use Rattle.bitstream_sink.proofs.bit_counter.BitCounterBitWrite.pad.Goals as goal

pub returns : goal.returns
returns g c = record { writes = c.add.ensures _ _ refl (length-replicate c.args.bits false ∙ sym c.from.ensures) }
