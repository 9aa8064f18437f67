use Rattle.std.proofs.Common.{refl}
use Rattle.bitstream_order.proofs.port.Port.seek.Goals as goal

pub returns-in-Ok-clause-seeks : goal.returns-in-Ok-clause-seeks
returns-in-Ok-clause-seeks g c = record {
  fetched = c.new-self.ensures;
  sent = refl;
  requests = c.add.ensures;
  refusals = refl;
  references = c.seek.ensures.references;
}
