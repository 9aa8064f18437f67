-- Made by `./format` from formats/riff_chunk.fields: edit that file and make this one anew.
use Rattle.bitstream_formats.proofs.RiffChunkLemmas.{riff_chunk_goes, riff_chunk_packs}
use Rattle.bitstream_formats.proofs.riff_chunk.riff_chunk_round_trip.Goals as goal

pub returns-clause-back : goal.returns-clause-back
returns-clause-back c = λ o value at from more fits. (riff_chunk_goes o value fits).back at from more

pub returns-clause-size : goal.returns-clause-size
returns-clause-size c = λ o value at fits. (riff_chunk_packs o value fits).size at
