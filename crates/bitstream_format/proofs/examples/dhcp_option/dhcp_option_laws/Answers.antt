use Rattle.bitstream_format.specs.Format.{round_trip_law, length_law, format_if_made}
use Rattle.bitstream_format.specs.Sizes.{part_limit_law}
use Rattle.bitstream_format.specs.Examples.DhcpOption.{dhcp_option, inside}
use Rattle.bitstream_format.specs.declared.examples.dhcp_option.DhcpError.TheVariants.{Reader, WrongSize}
use Rattle.bitstream_format.proofs.examples.dhcp_option.dhcp_option_laws.Goals as goal

pub returns-clause-round_trip : goal.returns-clause-round_trip
returns-clause-round_trip c = round_trip_law dhcp_option

pub returns-clause-length : goal.returns-clause-length
returns-clause-length c = length_law dhcp_option

pub returns-clause-limit : goal.returns-clause-limit
returns-clause-limit c = λ code size. part_limit_law size (format_if_made (inside code)) WrongSize (λ x. Reader x)
