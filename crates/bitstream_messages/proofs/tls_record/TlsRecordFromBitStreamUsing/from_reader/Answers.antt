-- Made by `./format` from formats/tls_record.fields: edit that file and make this one anew.
use Rattle.bitstream_messages.proofs.tls_record.TlsRecordFromBitStreamUsing.from_reader.Goals as goal

pub returns : goal.returns
returns g c = record { reads = c.read.ensures }
