use Rattle.bitstream_sink.proofs.bit_counter.BitCounterBitWrite.write_signed.Goals as goal

pub returns : goal.returns
returns g c = record { writes = c.write_signed.ensures.writes }
