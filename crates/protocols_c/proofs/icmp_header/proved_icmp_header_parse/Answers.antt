-- Made by `./format --c` from ../protocols/formats/icmp_header.fields: edit that file and make this one anew.
use Rattle.protocols_c.specs.IcmpHeader.{icmp_header_parsed}
use Rattle.protocols_c.specs.declared.icmp_header.IcmpHeaderParsed.{IcmpHeaderParsed}
use Rattle.protocols_c.proofs.IcmpHeaderLemmas.{decided, packed, within}
use Rattle.protocols_c.proofs.VariedLemmas.{read_decided}
use Rattle.std.proofs.Common.{◌≡◌, ◌∙◌, ◌-◌, length, ap, arith}
use Rattle.bitstream_io.proofs.CallerLemmas.{slice_ends}
use Rattle.protocols_c.proofs.icmp_header.proved_icmp_header_parse.Goals as goal

pub returns-clause-answer : goal.returns-clause-answer
returns-clause-answer c =
    let count : c.saturating_sub-taken.result ≡ length c.args.bytes.now - length c.rest.result.now =
    omega (arith, c.saturating_sub-taken.ensures) in
    c.parsed.ensures ∙ decided _ _ _ (read_decided slice_ends c.over-reader.ensures.state c.rest.ensures count c.read-answer.ensures)

pub returns-clause-within : goal.returns-clause-within
returns-clause-within c =
    let few = within c.read-answer.result c.saturating_sub-taken.result in
    let same : c.parsed.result.taken ≡ (icmp_header_parsed c.saturating_sub-taken.result c.read-answer.result).taken =
    ap (λ (it : IcmpHeaderParsed). it.taken) c.parsed.ensures in
    omega (arith, few, same, c.saturating_sub-taken.ensures)

pub returns-clause-round_trip : goal.returns-clause-round_trip
returns-clause-round_trip c = λ value fits is.
    let count : c.saturating_sub-taken.result ≡ length c.args.bytes.now - length c.rest.result.now =
    omega (arith, c.saturating_sub-taken.ensures) in
    c.parsed.ensures ∙ decided _ _ _ (read_decided slice_ends c.over-reader.ensures.state c.rest.ensures count c.read-answer.ensures)
    ∙ packed value c.args.bytes.now fits is
