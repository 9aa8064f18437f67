-- Made by `./format` from formats/dns_pointer.fields: edit that file and make this one anew.
use Rattle.bitstream_messages.specs.DnsPointer.{dns_pointer_decoder}
use Rattle.std.proofs.Common.{◌∙◌, refl, ap}
use Rattle.bitstream_io.proofs.CallerLemmas.{prefix_answered, slice_ends}
use Rattle.bitstream_io.proofs.SliceLemmas.{new_answer}
use Rattle.bitstream_io.specs.Callers.{High}
use Rattle.bitstream_messages.proofs.dns_pointer.DnsPointer.parse.Goals as goal

pub returns-clause-answer : goal.returns-clause-answer
returns-clause-answer c = new_answer slice_ends _ _ c.over.ensures.state c.read.ensures

pub returns-clause-back : goal.returns-clause-back
returns-clause-back c = λ value more fits is.
    prefix_answered slice_ends c.over.ensures.state refl c.read.ensures (ap ((dns_pointer_decoder High).reads 0) is ∙
    c.dns_pointer_round_trip.ensures.back High value 0 0 more fits)
