-- Made by `./format` from formats/socks_login.fields: edit that file and make this one anew.
use Rattle.protocols.proofs.socks_login.SocksLoginFromBitStreamUsing.from_reader.Goals as goal

pub returns : goal.returns
returns g c = record { reads = c.read.ensures }
