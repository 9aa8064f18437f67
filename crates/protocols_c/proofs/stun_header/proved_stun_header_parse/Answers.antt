-- Made by `./format --c` from ../protocols/formats/stun_header.fields: edit that file and make this one anew.
use Rattle.protocols_c.specs.StunHeader.{stun_header_parsed}
use Rattle.protocols_c.specs.declared.stun_header.StunHeaderParsed.{StunHeaderParsed}
use Rattle.protocols_c.proofs.StunHeaderLemmas.{first_bytes, ok_only}
use Rattle.std.proofs.Common.{◌≡◌, ◌∙◌, sym, ap}
use Rattle.std.specs.Prelude.{drop}
use Rattle.bitstream_io.specs.Callers.{High, bits}
use Rattle.protocols_c.proofs.stun_header.proved_stun_header_parse.Goals as goal

pub returns-clause-round_trip : goal.returns-clause-round_trip
returns-clause-round_trip c = λ value fits is.
    c.parsed.ensures ∙ ap stun_header_parsed (c.parse.ensures.back value (bits High (drop 20 c.args.bytes.now)) fits
    (first_bytes value _ is))

pub returns-clause-ok : goal.returns-clause-ok
returns-clause-ok c =
    let told : c.parsed.result.status ≡ (stun_header_parsed c.parse.result).status =
    ap (λ (it : StunHeaderParsed). it.status) c.parsed.ensures in (
      (λ ok. ok_only _ c.parse.result c.parse.ensures.short c.parse.ensures.no_stun c.parse.ensures.no_cookie (sym told ∙ ok)),
      (λ all. told ∙ ap (λ it. (stun_header_parsed it).status) (c.parse.ensures.there all.0 all.1 all.2)),
    )

pub returns-clause-there : goal.returns-clause-there
returns-clause-there c = λ count is_0 is_3.
    c.parsed.ensures ∙ ap stun_header_parsed (c.parse.ensures.there count is_0 is_3)

pub returns-clause-short : goal.returns-clause-short
returns-clause-short c = λ count is_0 is_3.
    c.parsed.ensures ∙ ap stun_header_parsed (c.parse.ensures.short count is_0 is_3)

pub returns-clause-no_stun : goal.returns-clause-no_stun
returns-clause-no_stun c = λ count is_0.
    c.parsed.ensures ∙ ap stun_header_parsed (c.parse.ensures.no_stun count is_0)

pub returns-clause-no_cookie : goal.returns-clause-no_cookie
returns-clause-no_cookie c = λ count is_0 is_3.
    c.parsed.ensures ∙ ap stun_header_parsed (c.parse.ensures.no_cookie count is_0 is_3)
