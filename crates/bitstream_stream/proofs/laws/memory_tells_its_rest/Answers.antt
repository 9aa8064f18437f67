use Rattle.bitstream_stream.proofs.Reading.MemorySeeks.{bytes_behind, bits_behind_place}
use Rattle.bitstream_stream.proofs.laws.memory_tells_its_rest.Goals as goal

pub returns-clause-bytes : goal.returns-clause-bytes
returns-clause-bytes g c = λ r. bytes_behind g.E.Endianness.order r

pub returns-clause-bits : goal.returns-clause-bits
returns-clause-bits g c = λ r fine. bits_behind_place g.E.Endianness.order r fine
