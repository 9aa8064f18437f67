-- Made by `./format` from formats/tftp_request.fields: edit that file and make this one anew.
use Rattle.network_messages.proofs.TftpRequestLemmas.{tftp_request_goes, tftp_request_packs}
use Rattle.network_messages.proofs.tftp_request.tftp_request_round_trip.Goals as goal

pub returns-clause-back : goal.returns-clause-back
returns-clause-back c = λ o value at from more fits. (tftp_request_goes o value fits).back at from more

pub returns-clause-size : goal.returns-clause-size
returns-clause-size c = λ o value at fits. (tftp_request_packs o value fits).size at
