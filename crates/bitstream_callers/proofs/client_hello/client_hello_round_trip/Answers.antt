-- Made by `./format` from formats/client_hello.fields: edit that file and make this one anew.
use Rattle.bitstream_callers.proofs.ClientHelloLemmas.{client_hello_goes, client_hello_packs}
use Rattle.bitstream_callers.proofs.client_hello.client_hello_round_trip.Goals as goal

pub returns-clause-back : goal.returns-clause-back
returns-clause-back c = λ o value at from more fits. (client_hello_goes o value fits).back at from more

pub returns-clause-size : goal.returns-clause-size
returns-clause-size c = λ o value at fits. (client_hello_packs o value fits).size at
