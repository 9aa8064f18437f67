-- Made by `./format` from formats/primary_header.fields: edit that file and make this one anew.
use Rattle.bitstream_callers.proofs.PrimaryHeaderLemmas.{primary_header_goes, primary_header_packs}
use Rattle.bitstream_callers.proofs.primary_header.primary_header_round_trip.Goals as goal

pub returns-clause-back : goal.returns-clause-back
returns-clause-back c = λ o value at from more fits. (primary_header_goes o value fits).back at from more

pub returns-clause-size : goal.returns-clause-size
returns-clause-size c = λ o value at fits. (primary_header_packs o value fits).size at
