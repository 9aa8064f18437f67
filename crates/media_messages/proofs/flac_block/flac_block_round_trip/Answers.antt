-- Made by `./format` from formats/flac_block.fields: edit that file and make this one anew.
use Rattle.media_messages.proofs.FlacBlockLemmas.{flac_block_goes, flac_block_packs}
use Rattle.media_messages.proofs.flac_block.flac_block_round_trip.Goals as goal

pub returns-clause-back : goal.returns-clause-back
returns-clause-back c = λ o value at from more fits. (flac_block_goes o value fits).back at from more

pub returns-clause-size : goal.returns-clause-size
returns-clause-size c = λ o value at fits. (flac_block_packs o value fits).size at
