-- Made by `./format` from formats/notes.fields: edit that file and make this one anew.
use Rattle.bitstream_messages.proofs.NotesLemmas.{notes_goes, notes_packs}
use Rattle.bitstream_messages.proofs.notes.notes_round_trip.Goals as goal

pub returns-clause-back : goal.returns-clause-back
returns-clause-back c = λ o value at from more fits. (notes_goes o value fits).back at from more

pub returns-clause-size : goal.returns-clause-size
returns-clause-size c = λ o value at fits. (notes_packs o value fits).size at
