use Rattle.bitstream_sink.proofs.RecorderLemmas.{holds_all, forwarded}
use Rattle.bitstream_sink.proofs.recorder.BitRecorderBitWrite.write_signed_counted.Goals as goal

pub invariant_of-self : goal.invariant_of-self
invariant_of-self g c = record { all = holds_all _ _ _ _ _ c.args.self.now.all c.write_signed_counted.ensures.writes }

pub returns : goal.returns
returns g c = record { writes = forwarded _ _ _ _ _ c.write_signed_counted.ensures.writes }
