-- Made by `./format` from formats/wav_format.fields: edit that file and make this one anew.
use Rattle.bitstream_formats.proofs.WavFormatLemmas.{wav_format_goes, wav_format_packs}
use Rattle.bitstream_formats.proofs.wav_format.wav_format_round_trip.Goals as goal

pub returns-clause-back : goal.returns-clause-back
returns-clause-back c = λ o value at from more fits. (wav_format_goes o value fits).back at from more

pub returns-clause-size : goal.returns-clause-size
returns-clause-size c = λ o value at fits. (wav_format_packs o value fits).size at
