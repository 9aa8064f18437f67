use Rattle.std.proofs.Common.{refl}
use Rattle.bitstream_order.proofs.port.Port.send.Goals as goal

pub returns-in-Ok : goal.returns-in-Ok
returns-in-Ok g c = record {
  grows = c.in-Ok.ensures.bytes;
  fetched = refl;
  sent = c.add-in-Ok.ensures;
  requests = c.add.ensures;
  refusals = refl;
  references = c.write_all.ensures.references;
}
