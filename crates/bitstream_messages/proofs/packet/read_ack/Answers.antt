-- Made by `./format` from formats/packet.fields: edit that file and make this one anew.
use Rattle.bitstream_messages.specs.Packet.{ack_ended}
use Rattle.bitstream_messages.specs.Ack.{ack_decoder}
use Rattle.bitstream_format.proofs.WithinLemmas.{sized-grown}
use Rattle.bitstream_messages.specs.declared.packet.PacketError.TheVariants.{Reader, OtherAck}
use Rattle.bitstream_io.proofs.GrowsLemmas.{stop_grown, vec-grown}
use Rattle.bitstream_io.specs.Callers.{plain_reads}
use Rattle.bitstream_messages.proofs.packet.read_ack.Goals as goal

pub returns-in_err-bytes : goal.returns-in_err-bytes
returns-in_err-bytes g c = stop_grown _ (vec-grown _ _ c.in_err-bytes.ensures.reads) c.from_residual.ensures.1

pub returns : goal.returns
returns g c = sized-grown {own = λ error. Reader error} (λ o. plain_reads (ack_decoder o)) OtherAck ack_ended
    c.args.size c.requires c.in_ok-bytes.ensures.reads (rw c.deref.ensures.value at c.ack_in.ensures)
