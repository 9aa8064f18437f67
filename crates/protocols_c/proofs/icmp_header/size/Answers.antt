-- Made by `./format --c` from ../protocols/formats/icmp_header.fields: edit that file and make this one anew.
use Rattle.protocols.specs.IcmpHeader.{icmp_header_writes}
use Rattle.protocols_c.proofs.IcmpHeaderLemmas.{icmp_header_most}
use Rattle.protocols.proofs.IcmpHeaderLemmas.{icmp_header_packs}
use Rattle.protocols_c.proofs.VariedLemmas.{counted_past}
use Rattle.std.proofs.Common.{◌∙◌, refl, arith}
use Rattle.bitstream_io.proofs.SequenceLemmas.{counted}
use Rattle.bitstream_io.specs.Callers.{High}
use Rattle.protocols_c.proofs.icmp_header.size.Goals as goal

pub returns : goal.returns
returns c =
    let all = icmp_header_packs High c.args.fields.now c.requires in
    c.into_written.ensures ∙ counted _ (icmp_header_writes High c.args.fields.now) _ _ refl c.new-counter.ensures c.in-Ok.ensures ∙ all.size 0

pub unreachable-requires : goal.unreachable-requires
unreachable-requires c =
    let all = icmp_header_packs High c.args.fields.now c.requires in
    let size = all.size 0 in
    let most = icmp_header_most c.args.fields.now c.requires in
    let more = counted_past _ 18446744073709551615 refl (λ x may. may) (icmp_header_writes High c.args.fields.now) _ _ _ c.new-counter.ensures
    refl (all.accepted 0) c.in-Err.ensures in
    omega (arith, more, size, most)
