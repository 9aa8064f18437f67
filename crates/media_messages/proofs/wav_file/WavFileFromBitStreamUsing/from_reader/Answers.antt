-- Made by `./format` from formats/wav_file.fields: edit that file and make this one anew.
use Rattle.media_messages.proofs.wav_file.WavFileFromBitStreamUsing.from_reader.Goals as goal

pub returns : goal.returns
returns g c = record { reads = c.read.ensures }
