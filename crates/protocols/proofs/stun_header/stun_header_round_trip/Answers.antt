-- Made by `./format` from formats/stun_header.fields: edit that file and make this one anew.
use Rattle.protocols.proofs.StunHeaderLemmas.{stun_header_goes, stun_header_packs}
use Rattle.protocols.proofs.stun_header.stun_header_round_trip.Goals as goal

pub returns-clause-back : goal.returns-clause-back
returns-clause-back c = λ o value at from more fits. (stun_header_goes o value fits).back at from more

pub returns-clause-size : goal.returns-clause-size
returns-clause-size c = λ o value at fits. (stun_header_packs o value fits).size at
