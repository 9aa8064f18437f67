-- Made by `./format` from formats/extension.fields: edit that file and make this one anew.
use Rattle.bitstream_messages.proofs.ExtensionLemmas.{extension_goes, extension_packs}
use Rattle.bitstream_messages.proofs.extension.extension_round_trip.Goals as goal

pub returns-clause-back : goal.returns-clause-back
returns-clause-back c = λ o value at from more fits. (extension_goes o value fits).back at from more

pub returns-clause-size : goal.returns-clause-size
returns-clause-size c = λ o value at fits. (extension_packs o value fits).size at
