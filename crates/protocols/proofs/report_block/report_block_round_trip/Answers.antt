-- Made by `./format` from formats/report_block.fields: edit that file and make this one anew.
use Rattle.protocols.proofs.ReportBlockLemmas.{report_block_goes, report_block_packs}
use Rattle.protocols.proofs.report_block.report_block_round_trip.Goals as goal

pub returns-clause-back : goal.returns-clause-back
returns-clause-back c = λ o value at from more fits. (report_block_goes o value fits).back at from more

pub returns-clause-size : goal.returns-clause-size
returns-clause-size c = λ o value at fits. (report_block_packs o value fits).size at
