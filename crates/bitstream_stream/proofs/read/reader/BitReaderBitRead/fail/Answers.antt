use Rattle.std.proofs.Common.{ap, true}
use Rattle.bitstream_order.specs.Port.{source_state}
use Rattle.bitstream_order.proofs.Moving.TakeLemmas.{word-none}
use Rattle.bitstream_stream.specs.Reading.Reader.{reader_state}
use Rattle.bitstream_stream.proofs.read.reader.BitReaderBitRead.fail.Goals as goal

pub returns : goal.returns
returns g c =
    ap (λ w. record (reader_state g.E.Endianness.order
    (source_state g.R.Source.stream c.args.self.now.port) 0 0
    c.args.self.now.taken.count true) { queue = w })
    (word-none g.E.Endianness.order _)
