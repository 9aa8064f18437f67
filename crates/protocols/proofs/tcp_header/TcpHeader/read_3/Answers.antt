-- Made by `./format` from formats/tcp_header.fields: edit that file and make this one anew.
use Rattle.bitstream_io.proofs.ReadsLemmas.{Reads-and_then-ok as next, Reads-pure, exit}
use Rattle.protocols.proofs.tcp_header.TcpHeader.read_3.Goals as goal

pub returns-in_err-urgent : goal.returns-in_err-urgent
returns-in_err-urgent g c = exit _ _ c.from_residual.ensures.1 c.in_err-urgent.ensures.reads

pub returns : goal.returns
returns g c = next _ _ c.in_ok-urgent.ensures.reads (Reads-pure _ _)
