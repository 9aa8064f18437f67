use Rattle.bitstream_format.specs.Format.{round_trip_law, length_law}
use Rattle.bitstream_format.specs.Places.{there_law, short_law}
use Rattle.bitstream_format.specs.Examples.Sample.{sample, sample_places}
use Rattle.bitstream_format.proofs.examples.sample.sample_laws.Goals as goal

pub returns-clause-round_trip : goal.returns-clause-round_trip
returns-clause-round_trip c = round_trip_law sample

pub returns-clause-length : goal.returns-clause-length
returns-clause-length c = length_law sample

pub returns-clause-there : goal.returns-clause-there
returns-clause-there c = there_law sample_places

pub returns-clause-short : goal.returns-clause-short
returns-clause-short c = short_law sample_places
