-- Made by `./format` from formats/icmp_ids.fields: edit that file and make this one anew.
use Rattle.protocols.specs.IcmpIds.{icmp_ids_decoder, icmp_ids_at}
use Rattle.protocols.proofs.IcmpIdsLemmas.{icmp_ids_packs, told}
use Rattle.std.proofs.Common.{◌++◌, ◌∙◌, ℕ, List, Ok, refl, ap, sym, arith}
use Rattle.bitstream_io.proofs.CallerLemmas.{Finds, fields_there, fields_short, prefix_answered, slice_ends, unsigned-finds, pure-finds, packs-whole}
use Rattle.bitstream_io.proofs.SliceLemmas.{new_answer}
use Rattle.bitstream_io.specs.Callers.{High, bits}
use Rattle.protocols.proofs.icmp_ids.IcmpIds.parse.Goals as goal

found : (packet : List ℕ)
    → Finds (bits High packet) 0 (icmp_ids_decoder High) 32 (Ok (icmp_ids_at (bits High packet)))
found packet = unsigned-finds _ _ 16 32 _ High 16 _ refl refl (unsigned-finds _ _ 16 16 _ High 16 _ refl refl
    (pure-finds _ _ _))

pub returns-clause-answer : goal.returns-clause-answer
returns-clause-answer c = new_answer slice_ends _ _ c.over.ensures.state c.read.ensures

pub returns-clause-there : goal.returns-clause-there
returns-clause-there c = λ enough. fields_there slice_ends c.over.ensures.state refl c.read.ensures (found _) (omega
    arith)

pub returns-clause-short : goal.returns-clause-short
returns-clause-short c = λ few. fields_short slice_ends c.over.ensures.state refl c.read.ensures (found _) (omega arith)

pub returns-clause-back : goal.returns-clause-back
returns-clause-back c = λ value more fits is.
    prefix_answered slice_ends c.over.ensures.state refl c.read.ensures (ap ((icmp_ids_decoder High).reads 0) (is ∙ ap
    (λ w. w ++ more) (sym (told value) ∙ packs-whole (icmp_ids_packs High value fits) refl)) ∙
    c.icmp_ids_round_trip.ensures.back High value 0 0 more fits)
