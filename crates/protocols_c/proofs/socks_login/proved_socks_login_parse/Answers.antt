-- Made by `./format --c` from ../protocols/formats/socks_login.fields: edit that file and make this one anew.
use Rattle.protocols_c.specs.SocksLogin.{socks_login_parsed}
use Rattle.protocols_c.proofs.SocksLoginLemmas.{decided, found_is, packed}
use Rattle.protocols_c.proofs.VariedLemmas.{read_decided}
use Rattle.std.proofs.Common.{◌≡◌, ◌∙◌, ◌-◌, length, ap, arith}
use Rattle.bitstream_io.proofs.CallerLemmas.{slice_ends}
use Rattle.protocols_c.proofs.socks_login.proved_socks_login_parse.Goals as goal

pub returns-clause-answer : goal.returns-clause-answer
returns-clause-answer c =
    let count : c.saturating_sub-taken.result ≡ length c.args.bytes.now - length c.rest.result.now =
    omega (arith, c.saturating_sub-taken.ensures) in
    c.parsed.ensures ∙ ap (socks_login_parsed _ _ _) c.read-answer.ensures.told
    ∙ decided _ c.read-answer.ensures.reads.plain _ _ _ _ (read_decided slice_ends c.over-reader.ensures.state c.rest.ensures count c.read-answer.ensures.reads.called)
    c.read-answer.ensures.reads.answer

pub returns-clause-name_items : goal.returns-clause-name_items
returns-clause-name_items c = λ n value is.
    let count : c.saturating_sub-taken.result ≡ length c.args.bytes.now - length c.rest.result.now =
    omega (arith, c.saturating_sub-taken.ensures) in
    c.read-answer.ensures.name_items value
    (found_is _ c.read-answer.ensures.reads.plain _ _ n value (read_decided slice_ends c.over-reader.ensures.state c.rest.ensures count c.read-answer.ensures.reads.called) c.read-answer.ensures.reads.answer is)

pub returns-clause-password_items : goal.returns-clause-password_items
returns-clause-password_items c = λ n value is.
    let count : c.saturating_sub-taken.result ≡ length c.args.bytes.now - length c.rest.result.now =
    omega (arith, c.saturating_sub-taken.ensures) in
    c.read-answer.ensures.password_items value
    (found_is _ c.read-answer.ensures.reads.plain _ _ n value (read_decided slice_ends c.over-reader.ensures.state c.rest.ensures count c.read-answer.ensures.reads.called) c.read-answer.ensures.reads.answer is)

pub returns-clause-round_trip : goal.returns-clause-round_trip
returns-clause-round_trip c = λ value fits is.
    let count : c.saturating_sub-taken.result ≡ length c.args.bytes.now - length c.rest.result.now =
    omega (arith, c.saturating_sub-taken.ensures) in
    c.parsed.ensures ∙ ap (socks_login_parsed _ _ _) c.read-answer.ensures.told
    ∙ decided _ c.read-answer.ensures.reads.plain _ _ _ _ (read_decided slice_ends c.over-reader.ensures.state c.rest.ensures count c.read-answer.ensures.reads.called)
    c.read-answer.ensures.reads.answer
    ∙ packed value c.args.bytes.now (length c.args.name_items.now) (length c.args.password_items.now) fits is
