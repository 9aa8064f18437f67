-- Made by `./format` from formats/coap_message.fields: edit that file and make this one anew.
use Rattle.std.proofs.lemmas.Bool.{le-leb}
use Rattle.bitstream_format.proofs.InGroupsLemmas.{above-leb}
use Rattle.network_messages.proofs.coap_message.write_token_count.Goals as goal

pub returns-then-is_most : goal.returns-then-is_most
returns-then-is_most g c = rw (le-leb _ _ c.if-is_most.true) c.write.ensures.writes

pub returns : goal.returns
returns g c = rw (above-leb _ _ c.if-is_most.false) c.write-2.ensures.writes
