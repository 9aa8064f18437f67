use Rattle.bitstream_formats.proofs.EmulationLemmas.{without-with}
use Rattle.bitstream_formats.proofs.nal.emulation.emulation_round_trip.Goals as goal

pub returns : goal.returns
returns c = without-with 0
