-- Made by `./format` from formats/stream_info.fields: edit that file and make this one anew.
use Rattle.bitstream_io.proofs.CallerLemmas.{plainly_read}
use Rattle.flac_codec.proofs.stream_info.StreamInfoFromBitStream.from_reader.Goals as goal

pub returns : goal.returns
returns g c = record { reads = plainly_read c.read.ensures }
