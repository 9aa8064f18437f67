use Rattle.bitstream_format.proofs.checksums.Sum16UdpChecksum.start.Goals as goal

pub returns : goal.returns
returns c = c.start.ensures
