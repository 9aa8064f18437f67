use Rattle.bitstream_format.proofs.checksums.Sum16UdpChecksum.take.Goals as goal

pub returns : goal.returns
returns c = λ before is. c.take.ensures before is
