-- Made by `./format` from formats/coap_message.fields: edit that file and make this one anew.
use Rattle.bitstream_io.proofs.CallerLemmas.{Reads-and_then-ok, Reads-pure, exit}
use Rattle.network_messages.proofs.coap_message.Message.read.Goals as goal

pub returns-in_err-number : goal.returns-in_err-number
returns-in_err-number g c = exit _ _ c.from_residual.ensures.1 c.in_err-number.ensures.reads

pub returns : goal.returns
returns g c = Reads-and_then-ok _ _ c.in_ok-number.ensures.reads (rw c.of.ensures (Reads-pure _ _))
