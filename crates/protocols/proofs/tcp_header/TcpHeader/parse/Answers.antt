-- Made by `./format` from formats/tcp_header.fields: edit that file and make this one anew.
use Rattle.protocols.specs.TcpHeader.{tcp_header_decoder, tcp_header_at}
use Rattle.protocols.proofs.TcpHeaderLemmas.{tcp_header_packs, told}
use Rattle.std.proofs.Common.{◌++◌, ◌∙◌, ℕ, List, Ok, refl, ap, sym, arith}
use Rattle.bitstream_io.proofs.CallerLemmas.{Finds, fields_there, fields_short, prefix_answered, slice_ends, bit-finds, unsigned-finds, skip-finds, pure-finds, packs-whole}
use Rattle.bitstream_io.proofs.SliceLemmas.{new_answer}
use Rattle.bitstream_io.specs.Callers.{High, bits}
use Rattle.protocols.proofs.tcp_header.TcpHeader.parse.Goals as goal

found : (packet : List ℕ)
    → Finds (bits High packet) 0 (tcp_header_decoder High) 160 (Ok (tcp_header_at (bits High packet)))
found packet = unsigned-finds _ _ 16 160 _ High 16 _ refl refl (unsigned-finds _ _ 16 144 _ High 16 _ refl refl
    (unsigned-finds _ _ 32 128 _ High 32 _ refl refl (unsigned-finds _ _ 32 96 _ High 32 _ refl refl (unsigned-finds _ _
    4 64 _ High 8 _ refl refl (skip-finds _ _ 4 60 _ _ refl (bit-finds _ _ 56 _ _ refl (bit-finds _ _ 55 _ _ refl
    (bit-finds _ _ 54 _ _ refl (bit-finds _ _ 53 _ _ refl (bit-finds _ _ 52 _ _ refl (bit-finds _ _ 51 _ _ refl
    (bit-finds _ _ 50 _ _ refl (bit-finds _ _ 49 _ _ refl (unsigned-finds _ _ 16 48 _ High 16 _ refl refl
    (unsigned-finds _ _ 16 32 _ High 16 _ refl refl (unsigned-finds _ _ 16 16 _ High 16 _ refl refl (pure-finds _ _
    _)))))))))))))))))

pub returns-clause-answer : goal.returns-clause-answer
returns-clause-answer c = new_answer slice_ends _ _ c.over.ensures.state c.read.ensures

pub returns-clause-there : goal.returns-clause-there
returns-clause-there c = λ enough. fields_there slice_ends c.over.ensures.state refl c.read.ensures (found _) (omega
    arith)

pub returns-clause-short : goal.returns-clause-short
returns-clause-short c = λ few. fields_short slice_ends c.over.ensures.state refl c.read.ensures (found _) (omega arith)

pub returns-clause-back : goal.returns-clause-back
returns-clause-back c = λ value more fits is.
    prefix_answered slice_ends c.over.ensures.state refl c.read.ensures (ap ((tcp_header_decoder High).reads 0) (is ∙ ap
    (λ w. w ++ more) (sym (told value) ∙ packs-whole (tcp_header_packs High value fits) refl)) ∙
    c.tcp_header_round_trip.ensures.back High value 0 0 more fits)
