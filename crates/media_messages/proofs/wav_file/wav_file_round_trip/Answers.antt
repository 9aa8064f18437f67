-- Made by `./format` from formats/wav_file.fields: edit that file and make this one anew.
use Rattle.media_messages.proofs.WavFileLemmas.{wav_file_goes, wav_file_packs}
use Rattle.media_messages.proofs.wav_file.wav_file_round_trip.Goals as goal

pub returns-clause-back : goal.returns-clause-back
returns-clause-back c = λ o value at from more fits. (wav_file_goes o value fits).back at from more

pub returns-clause-size : goal.returns-clause-size
returns-clause-size c = λ o value at fits. (wav_file_packs o value fits).size at
