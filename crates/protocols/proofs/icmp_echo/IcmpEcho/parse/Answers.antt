-- Made by `./format` from formats/icmp_echo.fields: edit that file and make this one anew.
use Rattle.protocols.specs.IcmpEcho.{icmp_echo_decoder, icmp_echo_at, bits_at, const_at_8, echo_kind_of}
use Rattle.protocols.proofs.IcmpEchoLemmas.{icmp_echo_packs, told}
use Rattle.protocols.specs.declared.icmp_echo.IcmpEchoError.TheVariants.{NoEchoKind, OtherCode}
use Rattle.protocols.specs.declared.icmp_echo.EchoKind.{EchoKind}
use Rattle.std.proofs.Common.{◌≡◌, ◌≢◌, ◌++◌, ◌∙◌, ℕ, List, Ok, Err, refl, ap, sym, arith}
use Rattle.bitstream_io.proofs.CallerLemmas.{Finds, is_error, own_answered, own_fields_there, own_fields_short, own_prefix_answered, slice_ends, unsigned-finds, const-finds, const-misses, pure-finds, part-finds, part-misses, packs-whole}
use Rattle.bitstream_io.specs.Callers.{High, bits, number}
use Rattle.protocols.proofs.icmp_echo.IcmpEcho.parse.Goals as goal

found : (packet : List ℕ) → (kind : EchoKind) → echo_kind_of (number High (bits_at 0 8 (bits High packet))) ≡ Ok kind →
    const_at_8 (bits High packet) ≡ 0
    → Finds (bits High packet) 0 (icmp_echo_decoder High) 64 (Ok (Ok (icmp_echo_at kind (bits High packet))))
found packet kind is_0 is_1 = part-finds _ _ 64 8 High 8 echo_kind_of _ kind _ refl refl is_0 (const-finds _ _ 8 56 _
    High 0 _ refl is_1 (unsigned-finds _ _ 16 48 _ High 16 _ refl refl (unsigned-finds _ _ 16 32 _ High 16 _ refl refl
    (unsigned-finds _ _ 16 16 _ High 16 _ refl refl (pure-finds _ _ _)))))

other_0 : (packet : List ℕ) → echo_kind_of (number High (bits_at 0 8 (bits High packet))) ≡ Err NoEchoKind
    → Finds (bits High packet) 0 (icmp_echo_decoder High) 8 (Ok (Err NoEchoKind))
other_0 packet differs = part-misses _ _ 8 8 High 8 echo_kind_of _ NoEchoKind refl refl differs refl

other_1 : (packet : List ℕ) → (kind : EchoKind) → echo_kind_of (number High (bits_at 0 8 (bits High packet))) ≡ Ok kind
    → const_at_8 (bits High packet) ≢ 0
    → Finds (bits High packet) 0 (icmp_echo_decoder High) 16 (Ok (Err OtherCode))
other_1 packet kind is_0 differs = part-finds _ _ 16 8 High 8 echo_kind_of _ kind _ refl refl is_0 (const-misses _ _ 8 8
    _ High 0 _ refl differs (pure-finds _ _ _))

pub returns-clause-answer : goal.returns-clause-answer
returns-clause-answer c = own_answered slice_ends c.over.ensures.state refl c.read.ensures

pub returns-clause-no_echo_kind : goal.returns-clause-no_echo_kind
returns-clause-no_echo_kind c = λ enough differs. own_fields_there slice_ends c.over.ensures.state refl c.read.ensures
    (other_0 _ differs) (omega arith)

pub returns-clause-other_code : goal.returns-clause-other_code
returns-clause-other_code c = λ enough kind is_0 differs. own_fields_there slice_ends c.over.ensures.state refl
    c.read.ensures (other_1 _ kind is_0 differs) (omega arith)

pub returns-clause-there : goal.returns-clause-there
returns-clause-there c = λ enough kind is_0 is_1. own_fields_there slice_ends c.over.ensures.state refl c.read.ensures
    (found _ kind is_0 is_1) (omega arith)

pub returns-clause-short : goal.returns-clause-short
returns-clause-short c = λ few kind is_0 is_1. is_error _ _ (own_fields_short slice_ends c.over.ensures.state refl
    c.read.ensures (found _ kind is_0 is_1) (omega arith))

pub returns-clause-back : goal.returns-clause-back
returns-clause-back c = λ value more fits is.
    own_prefix_answered slice_ends c.over.ensures.state refl c.read.ensures (ap ((icmp_echo_decoder High).reads 0) (is ∙
    ap (λ w. w ++ more) (sym (told value) ∙ packs-whole (icmp_echo_packs High value fits) refl)) ∙
    c.icmp_echo_round_trip.ensures.back High value 0 0 more fits)
