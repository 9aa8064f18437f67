use Rattle.std.proofs.Common.{Ok, Err, refl}
use Rattle.bitfields_core.proofs.running.run.Goals as goal

pub returns-in-Ok : goal.returns-in-Ok
returns-in-Ok g c = record { outcome = Ok tt; calls = c.in-Ok.ensures; reports = refl; ends = refl }

pub returns-in-Err : goal.returns-in-Err
returns-in-Err g c = record {
  outcome = Err c.in-Err.fault;
  calls = c.in-Err.ensures;
  reports = c.report.ensures.line;
  ends = c.report.ensures.status;
}
