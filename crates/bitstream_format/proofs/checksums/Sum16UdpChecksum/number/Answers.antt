use Rattle.bitstream_format.proofs.ChecksLemmas.{udp-none, udp-some}
use Rattle.bitstream_format.proofs.checksums.Sum16UdpChecksum.number.Goals as goal

pub returns-then-number-eq0 : goal.returns-then-number-eq0
returns-then-number-eq0 c = λ bytes is. udp-none _ bytes (c.number-number.ensures bytes is) c.if-number-eq0.true

pub returns : goal.returns
returns c = λ bytes is. udp-some _ bytes (c.number-number.ensures bytes is) c.if-number-eq0.false
