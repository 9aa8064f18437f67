use Rattle.bitstream_order.specs.Refusal.{MayRefuseWrite}
use Rattle.bitstream_stream.specs.Writing.Writer.{writer_state}
use Rattle.bitstream_stream.proofs.Writing.RoomLemmas.{room-all}
use Rattle.bitstream_stream.proofs.laws.rooms_are_known.Goals as goal

pub returns : goal.returns
returns g c =
    let target = g.W.Target in
    room-all (writer_state target.stream) (MayRefuseWrite target.stream)
    g.E.Endianness.order
