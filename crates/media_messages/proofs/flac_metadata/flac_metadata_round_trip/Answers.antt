-- Made by `./format` from formats/flac_metadata.fields: edit that file and make this one anew.
use Rattle.media_messages.proofs.FlacMetadataLemmas.{flac_metadata_goes, flac_metadata_packs}
use Rattle.media_messages.proofs.flac_metadata.flac_metadata_round_trip.Goals as goal

pub returns-clause-back : goal.returns-clause-back
returns-clause-back c = λ o value at from more fits. (flac_metadata_goes o value fits).back at from more

pub returns-clause-size : goal.returns-clause-size
returns-clause-size c = λ o value at fits. (flac_metadata_packs o value fits).size at
