-- Made by `./format` from formats/quic_long_header.fields: edit that file and make this one anew.
use Rattle.protocols.proofs.quic_long_header.QuicLongHeaderFromBitStreamUsing.from_reader.Goals as goal

pub returns : goal.returns
returns g c = record { reads = c.read.ensures }
