-- Made by `./format` from formats/checked_ipv4.fields: edit that file and make this one anew.
use Rattle.network_messages.specs.CheckedIpv4.{checked_ipv4_decoder}
use Rattle.std.proofs.Common.{◌∙◌, refl, ap}
use Rattle.bitstream_io.proofs.CallerLemmas.{own_answered, own_prefix_answered, slice_ends}
use Rattle.bitstream_io.specs.Callers.{High}
use Rattle.network_messages.proofs.checked_ipv4.CheckedIpv4.parse.Goals as goal

pub returns-clause-answer : goal.returns-clause-answer
returns-clause-answer c = own_answered slice_ends c.over.ensures.state refl c.read.ensures

pub returns-clause-back : goal.returns-clause-back
returns-clause-back c = λ value more fits is.
    own_prefix_answered slice_ends c.over.ensures.state refl c.read.ensures (ap ((checked_ipv4_decoder High).reads 0) is
    ∙ c.checked_ipv4_round_trip.ensures.back High value 0 0 more fits)
