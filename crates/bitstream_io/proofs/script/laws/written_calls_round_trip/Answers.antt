use Rattle.std.proofs.Common.{refl}
use Rattle.bitstream_io.proofs.ReadBackLemmas.{reads_back, sure_back}
use Rattle.bitstream_io.proofs.ReadScriptLemmas.{run_of}
use Rattle.bitstream_io.proofs.script.laws.written_calls_round_trip.Goals as goal

pub returns : goal.returns
returns g c written len old new answers ends free typed fine stands each =
    let K = g.R.BitRead.source in
    let back = reads_back K written len _ old answers new typed stands refl (run_of K _ old answers new each) in
    sure_back K _ _ old answers new ends free fine back
