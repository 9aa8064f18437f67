-- Made by `./format` from formats/icmp_echo.fields: edit that file and make this one anew.
use Rattle.protocols.proofs.icmp_echo.IcmpEchoFromBitStream.from_reader.Goals as goal

pub returns : goal.returns
returns g c = record { reads = c.read.ensures }
