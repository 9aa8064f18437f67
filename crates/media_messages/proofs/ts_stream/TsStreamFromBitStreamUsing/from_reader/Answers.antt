-- Made by `./format` from formats/ts_stream.fields: edit that file and make this one anew.
use Rattle.media_messages.proofs.ts_stream.TsStreamFromBitStreamUsing.from_reader.Goals as goal

pub returns : goal.returns
returns g c = record { reads = c.read.ensures }
