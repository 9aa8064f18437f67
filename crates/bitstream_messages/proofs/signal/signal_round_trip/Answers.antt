-- Made by `./format` from formats/signal.fields: edit that file and make this one anew.
use Rattle.bitstream_messages.proofs.SignalLemmas.{signal_goes, signal_packs}
use Rattle.bitstream_messages.proofs.signal.signal_round_trip.Goals as goal

pub returns-clause-back : goal.returns-clause-back
returns-clause-back c = λ o value at from more fits. (signal_goes o value fits).back at from more

pub returns-clause-size : goal.returns-clause-size
returns-clause-size c = λ o value at fits. (signal_packs o value fits).size at
