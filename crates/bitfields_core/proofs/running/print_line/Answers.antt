use Rattle.bitfields_core.proofs.RunLemmas.{reported}
use Rattle.bitfields_core.proofs.running.print_line.Goals as goal

pub returns : goal.returns
returns g c =
    reported g.X.Target.stream c.args.fault _ _ c.as_slice.result.now c.write_all.result (cc) c.write_all.ensures.bytes
    c.write_all.ensures.refused
