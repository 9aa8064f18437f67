-- Made by `./format` from formats/hello.fields: edit that file and make this one anew.
use Rattle.bitstream_messages.proofs.HelloLemmas.{hello_goes, hello_packs}
use Rattle.bitstream_messages.proofs.hello.hello_round_trip.Goals as goal

pub returns-clause-back : goal.returns-clause-back
returns-clause-back c = λ o value at from more fits. (hello_goes o value fits).back at from more

pub returns-clause-size : goal.returns-clause-size
returns-clause-size c = λ o value at fits. (hello_packs o value fits).size at
