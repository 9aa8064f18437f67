-- Made by `./format` from formats/block_header.fields: edit that file and make this one anew.
use Rattle.bitstream_callers.proofs.BlockHeaderLemmas.{block_header_goes, block_header_packs}
use Rattle.bitstream_callers.proofs.block_header.block_header_round_trip.Goals as goal

pub returns-clause-back : goal.returns-clause-back
returns-clause-back c = λ o value at from more fits. (block_header_goes o value fits).back at from more

pub returns-clause-size : goal.returns-clause-size
returns-clause-size c = λ o value at fits. (block_header_packs o value fits).size at
