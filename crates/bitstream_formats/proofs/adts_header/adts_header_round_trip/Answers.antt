-- Made by `./format` from formats/adts_header.fields: edit that file and make this one anew.
use Rattle.bitstream_formats.proofs.AdtsHeaderLemmas.{adts_header_goes, adts_header_packs}
use Rattle.bitstream_formats.proofs.adts_header.adts_header_round_trip.Goals as goal

pub returns-clause-back : goal.returns-clause-back
returns-clause-back c = λ o value at from more fits. (adts_header_goes o value fits).back at from more

pub returns-clause-size : goal.returns-clause-size
returns-clause-size c = λ o value at fits. (adts_header_packs o value fits).size at
