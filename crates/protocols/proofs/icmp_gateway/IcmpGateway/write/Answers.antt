-- Made by `./format` from formats/icmp_gateway.fields: edit that file and make this one anew.
use Rattle.bitstream_io.proofs.WriteParts.{all_none}
use Rattle.bitstream_io.proofs.WriteSteps.{next_call, stop_call}
use Rattle.protocols.proofs.icmp_gateway.IcmpGateway.write.Goals as goal

pub returns-in_err-write_bytes : goal.returns-in_err-write_bytes
returns-in_err-write_bytes g c = stop_call _ _ _ _ _ _ _ c.from_residual.ensures.1 c.in_err-write_bytes.ensures.writes

pub returns : goal.returns
returns g c = next_call _ _ _ _ _ _ _ c.in_ok-write_bytes.ensures.writes (all_none _ _)
