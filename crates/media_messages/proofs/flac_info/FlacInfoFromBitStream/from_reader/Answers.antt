-- Made by `./format` from formats/flac_info.fields: edit that file and make this one anew.
use Rattle.bitstream_io.proofs.CallerLemmas.{plainly_read}
use Rattle.media_messages.proofs.flac_info.FlacInfoFromBitStream.from_reader.Goals as goal

pub returns : goal.returns
returns g c = record { reads = plainly_read c.read.ensures }
