-- Made by `./format` from formats/icmp_header.fields: edit that file and make this one anew.
use Rattle.protocols.specs.IcmpHeader.{icmp_header_decoder}
use Rattle.std.proofs.Common.{◌∙◌, refl, ap}
use Rattle.bitstream_io.proofs.CallerLemmas.{prefix_answered, slice_ends}
use Rattle.bitstream_io.proofs.SliceLemmas.{new_answer}
use Rattle.bitstream_io.specs.Callers.{High}
use Rattle.protocols.proofs.icmp_header.IcmpHeader.parse.Goals as goal

pub returns-clause-answer : goal.returns-clause-answer
returns-clause-answer c = new_answer slice_ends _ _ c.over.ensures.state c.read.ensures

pub returns-clause-back : goal.returns-clause-back
returns-clause-back c = λ value more fits is.
    prefix_answered slice_ends c.over.ensures.state refl c.read.ensures (ap ((icmp_header_decoder High).reads 0) is ∙
    c.icmp_header_round_trip.ensures.back High value 0 0 more fits)
