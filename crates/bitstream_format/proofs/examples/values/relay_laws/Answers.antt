use Rattle.bitstream_format.specs.Format.{round_trip_law, length_law}
use Rattle.bitstream_format.specs.Sizes.{list_limit_law}
use Rattle.bitstream_format.specs.Examples.Relay.{relay, sub_option, Reader, WrongSize}
use Rattle.bitstream_format.proofs.examples.values.relay_laws.Goals as goal

pub returns-clause-round_trip : goal.returns-clause-round_trip
returns-clause-round_trip c = round_trip_law relay

pub returns-clause-length : goal.returns-clause-length
returns-clause-length c = length_law relay

pub returns-clause-limit : goal.returns-clause-limit
returns-clause-limit c = λ size. list_limit_law size sub_option WrongSize (λ x. Reader x)
