-- Made by `./format` from formats/ipv4_pseudo.fields: edit that file and make this one anew.
use Rattle.network_messages.specs.Ipv4Pseudo.{ipv4_pseudo_decoder, ipv4_pseudo_at}
use Rattle.network_messages.proofs.Ipv4PseudoLemmas.{ipv4_pseudo_packs, told}
use Rattle.std.proofs.Common.{◌++◌, ◌∙◌, ℕ, List, Ok, refl, ap, sym, arith}
use Rattle.bitstream_io.proofs.CallerLemmas.{Finds, fields_there, fields_short, prefix_answered, slice_ends, unsigned-finds, bytes-finds, skip-finds, pure-finds, packs-whole}
use Rattle.bitstream_io.proofs.SliceLemmas.{new_answer}
use Rattle.bitstream_io.specs.Callers.{High, bits}
use Rattle.network_messages.proofs.ipv4_pseudo.Ipv4Pseudo.parse.Goals as goal

found : (packet : List ℕ)
    → Finds (bits High packet) 0 (ipv4_pseudo_decoder High) 96 (Ok (ipv4_pseudo_at (bits High packet)))
found packet = bytes-finds _ _ 96 _ 4 High _ refl (bytes-finds _ _ 64 _ 4 High _ refl (skip-finds _ _ 8 32 _ _ refl
    (unsigned-finds _ _ 8 24 _ High 8 _ refl refl (unsigned-finds _ _ 16 16 _ High 16 _ refl refl (pure-finds _ _ _)))))

pub returns-clause-answer : goal.returns-clause-answer
returns-clause-answer c = new_answer slice_ends _ _ c.over.ensures.state c.read.ensures

pub returns-clause-there : goal.returns-clause-there
returns-clause-there c = λ enough. fields_there slice_ends c.over.ensures.state refl c.read.ensures (found _) (omega
    arith)

pub returns-clause-short : goal.returns-clause-short
returns-clause-short c = λ few. fields_short slice_ends c.over.ensures.state refl c.read.ensures (found _) (omega arith)

pub returns-clause-back : goal.returns-clause-back
returns-clause-back c = λ value more fits is.
    prefix_answered slice_ends c.over.ensures.state refl c.read.ensures (ap ((ipv4_pseudo_decoder High).reads 0) (is ∙
    ap (λ w. w ++ more) (sym (told value) ∙ packs-whole (ipv4_pseudo_packs High value fits) refl)) ∙
    c.ipv4_pseudo_round_trip.ensures.back High value 0 0 more fits)
