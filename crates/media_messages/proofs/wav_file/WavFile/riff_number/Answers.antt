-- Made by `./format` from formats/wav_file.fields: edit that file and make this one anew.
use Rattle.media_messages.proofs.wav_file.WavFile.riff_number.Goals as goal

pub returns : goal.returns
returns c = rw c.riff_bytes.ensures at c.stored_size.ensures
