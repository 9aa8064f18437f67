use Rattle.bitstream_format.specs.Format.{round_trip_law, length_law}
use Rattle.bitstream_format.specs.Examples.Hello.{hello}
use Rattle.bitstream_format.proofs.examples.values.hello_laws.Goals as goal

pub returns-clause-round_trip : goal.returns-clause-round_trip
returns-clause-round_trip c = round_trip_law hello

pub returns-clause-length : goal.returns-clause-length
returns-clause-length c = length_law hello
