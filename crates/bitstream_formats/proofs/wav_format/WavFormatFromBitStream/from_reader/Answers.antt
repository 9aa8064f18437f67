-- Made by `./format` from formats/wav_format.fields: edit that file and make this one anew.
use Rattle.bitstream_io.proofs.CallerLemmas.{plainly_read}
use Rattle.bitstream_formats.proofs.wav_format.WavFormatFromBitStream.from_reader.Goals as goal

pub returns : goal.returns
returns g c = record { reads = plainly_read c.read.ensures }
