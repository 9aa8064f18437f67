-- Made by `./format` from formats/extensions.fields: edit that file and make this one anew.
use Rattle.bitstream_messages.proofs.ExtensionsLemmas.{extensions_goes, extensions_packs}
use Rattle.bitstream_messages.proofs.extensions.extensions_round_trip.Goals as goal

pub returns-clause-back : goal.returns-clause-back
returns-clause-back c = λ o value at from more fits. (extensions_goes o value fits).back at from more

pub returns-clause-size : goal.returns-clause-size
returns-clause-size c = λ o value at fits. (extensions_packs o value fits).size at
