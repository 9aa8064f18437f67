-- Made by `./format` from formats/stun_header.fields: edit that file and make this one anew.
use Rattle.protocols.proofs.stun_header.StunHeaderFromBitStream.from_reader.Goals as goal

pub returns : goal.returns
returns g c = record { reads = c.read.ensures }
