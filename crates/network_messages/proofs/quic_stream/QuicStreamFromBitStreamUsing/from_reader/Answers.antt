-- Made by `./format` from formats/quic_stream.fields: edit that file and make this one anew.
use Rattle.network_messages.proofs.quic_stream.QuicStreamFromBitStreamUsing.from_reader.Goals as goal

pub returns : goal.returns
returns g c = record { reads = c.read.ensures }
