use Rattle.bitstream_io.proofs.script.laws.appending_composes.Goals as goal

pub returns : goal.returns
returns g c old mid new first second = g.W.BitWrite.sink.appends_trans old mid new first second
