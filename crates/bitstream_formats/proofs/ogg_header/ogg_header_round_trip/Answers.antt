-- Made by `./format` from formats/ogg_header.fields: edit that file and make this one anew.
use Rattle.bitstream_formats.proofs.OggHeaderLemmas.{ogg_header_goes, ogg_header_packs}
use Rattle.bitstream_formats.proofs.ogg_header.ogg_header_round_trip.Goals as goal

pub returns-clause-back : goal.returns-clause-back
returns-clause-back c = λ o value at from more fits. (ogg_header_goes o value fits).back at from more

pub returns-clause-size : goal.returns-clause-size
returns-clause-size c = λ o value at fits. (ogg_header_packs o value fits).size at
