-- Made by `./format --c` from ../protocols/formats/socks_login.fields: edit that file and make this one anew.
use Rattle.protocols_c.specs.SocksLogin.{socks_login_held, socks_login_room, socks_login_of}
use Rattle.protocols_c.specs.Shared.{PacksInto}
use Rattle.protocols.specs.SocksLogin.{Fits}
use Rattle.std.proofs.Common.{◌∙◌, sym, ap, subst}
use Rattle.std.specs.Prelude.{option_map, IsSomeAnd}
use Rattle.bitstream_io.specs.Callers.{High}
use Rattle.protocols_c.proofs.socks_login.proved_socks_login_pack.Goals as goal

pub returns-in-Some : goal.returns-in-Some
returns-in-Some c =
    let is = sym c.fields.ensures ∙ ap (option_map socks_login_of) c.in-Some.is in
    subst (λ it. PacksInto (IsSomeAnd it Fits) High (socks_login_room it) (socks_login_held it)
    c.args.buffer.now c.put.result c.put.new.buffer) (sym is) c.put.ensures
