-- Made by `./format --c` from ../protocols/formats/socks_login.fields: edit that file and make this one anew.
use Rattle.protocols_c.specs.SocksLogin.{socks_login_of}
use Rattle.protocols.specs.SocksLogin.{socks_login_writes}
use Rattle.protocols_c.proofs.SocksLoginLemmas.{socks_login_most}
use Rattle.protocols.proofs.SocksLoginLemmas.{socks_login_packs}
use Rattle.protocols_c.proofs.VariedLemmas.{counted_past}
use Rattle.std.proofs.Common.{◌∙◌, refl, arith}
use Rattle.bitstream_io.proofs.SequenceLemmas.{counted}
use Rattle.bitstream_io.specs.Callers.{High}
use Rattle.protocols_c.proofs.socks_login.size.Goals as goal

pub returns : goal.returns
returns c =
    let all = socks_login_packs High (socks_login_of c.args.fields.now) c.requires in
    c.into_written.ensures ∙ counted _ (socks_login_writes High (socks_login_of c.args.fields.now)) _ _ refl c.new-counter.ensures c.in-Ok.ensures ∙ all.size 0

pub unreachable-requires : goal.unreachable-requires
unreachable-requires c =
    let all = socks_login_packs High (socks_login_of c.args.fields.now) c.requires in
    let size = all.size 0 in
    let most = socks_login_most (socks_login_of c.args.fields.now) c.requires in
    let more = counted_past _ 18446744073709551615 refl (λ x may. may) (socks_login_writes High (socks_login_of c.args.fields.now)) _ _ _ c.new-counter.ensures
    refl (all.accepted 0) c.in-Err.ensures in
    omega (arith, more, size, most)
