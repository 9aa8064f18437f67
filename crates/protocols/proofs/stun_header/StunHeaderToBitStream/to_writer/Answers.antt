-- Made by `./format` from formats/stun_header.fields: edit that file and make this one anew.
use Rattle.bitstream_io.proofs.CallerLemmas.{plainly_written}
use Rattle.protocols.proofs.stun_header.StunHeaderToBitStream.to_writer.Goals as goal

pub returns : goal.returns
returns g c = record { writes = plainly_written _ _ _ _ _ c.write.ensures }
