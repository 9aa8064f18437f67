use Rattle.bitstream_io.proofs.CallerLemmas.{next_own_read as next, exit_own_read as exit, own_end}
use Rattle.bitstream_format.proofs.examples.dhcp_option.DhcpOption.read_filling.Goals as goal

pub returns-in_err-read_bytes : goal.returns-in_err-read_bytes
returns-in_err-read_bytes c = exit _ c.from_residual.ensures.1 c.in_err-read_bytes.ensures.reads

pub returns : goal.returns
returns c = rw c.filling.ensures (next _ c.in_ok-read_bytes.ensures.reads (own_end _ _))
