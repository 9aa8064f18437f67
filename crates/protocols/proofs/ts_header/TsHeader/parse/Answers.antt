-- Made by `./format` from formats/ts_header.fields: edit that file and make this one anew.
use Rattle.protocols.specs.TsHeader.{ts_header_decoder, ts_header_at, bits_at, const_at_0, adaptation_of}
use Rattle.protocols.proofs.TsHeaderLemmas.{ts_header_packs, told}
use Rattle.protocols.specs.declared.ts_header.TsError.TheVariants.{NoSync, NoAdaptation}
use Rattle.protocols.specs.declared.ts_header.Adaptation.{Adaptation}
use Rattle.std.proofs.Common.{◌≡◌, ◌≢◌, ◌++◌, ◌∙◌, ℕ, List, Ok, Err, refl, ap, sym, arith}
use Rattle.bitstream_io.proofs.CallerLemmas.{Finds, is_error, own_answered, own_fields_there, own_fields_short, own_prefix_answered, slice_ends, bit-finds, unsigned-finds, const-finds, const-misses, pure-finds, part-finds, part-misses, packs-whole}
use Rattle.bitstream_io.specs.Callers.{High, bits, number}
use Rattle.protocols.proofs.ts_header.TsHeader.parse.Goals as goal

found : (packet : List ℕ) → (adaptation : Adaptation) → const_at_0 (bits High packet) ≡ 71 → adaptation_of (number High
    (bits_at 26 2 (bits High packet))) ≡ Ok adaptation
    → Finds (bits High packet) 0 (ts_header_decoder High) 32 (Ok (Ok (ts_header_at adaptation (bits High packet))))
found packet adaptation is_0 is_6 = const-finds _ _ 8 32 _ High 71 _ refl is_0 (bit-finds _ _ 24 _ _ refl (bit-finds _ _
    23 _ _ refl (bit-finds _ _ 22 _ _ refl (unsigned-finds _ _ 13 21 _ High 16 _ refl refl (unsigned-finds _ _ 2 8 _
    High 8 _ refl refl (part-finds _ _ 6 2 High 8 adaptation_of _ adaptation _ refl refl is_6 (unsigned-finds _ _ 4 4 _
    High 8 _ refl refl (pure-finds _ _ _))))))))

other_0 : (packet : List ℕ) → const_at_0 (bits High packet) ≢ 71
    → Finds (bits High packet) 0 (ts_header_decoder High) 8 (Ok (Err NoSync))
other_0 packet differs = const-misses _ _ 8 8 _ High 71 _ refl differs (pure-finds _ _ _)

other_6 : (packet : List ℕ) → const_at_0 (bits High packet) ≡ 71 → adaptation_of (number High (bits_at 26 2 (bits High
    packet))) ≡ Err NoAdaptation
    → Finds (bits High packet) 0 (ts_header_decoder High) 28 (Ok (Err NoAdaptation))
other_6 packet is_0 differs = const-finds _ _ 8 28 _ High 71 _ refl is_0 (bit-finds _ _ 20 _ _ refl (bit-finds _ _ 19 _
    _ refl (bit-finds _ _ 18 _ _ refl (unsigned-finds _ _ 13 17 _ High 16 _ refl refl (unsigned-finds _ _ 2 4 _ High 8 _
    refl refl (part-misses _ _ 2 2 High 8 adaptation_of _ NoAdaptation refl refl differs refl))))))

pub returns-clause-answer : goal.returns-clause-answer
returns-clause-answer c = own_answered slice_ends c.over.ensures.state refl c.read.ensures

pub returns-clause-no_sync : goal.returns-clause-no_sync
returns-clause-no_sync c = λ enough differs. own_fields_there slice_ends c.over.ensures.state refl c.read.ensures
    (other_0 _ differs) (omega arith)

pub returns-clause-no_adaptation : goal.returns-clause-no_adaptation
returns-clause-no_adaptation c = λ enough is_0 differs. own_fields_there slice_ends c.over.ensures.state refl
    c.read.ensures (other_6 _ is_0 differs) (omega arith)

pub returns-clause-there : goal.returns-clause-there
returns-clause-there c = λ enough adaptation is_0 is_6. own_fields_there slice_ends c.over.ensures.state refl
    c.read.ensures (found _ adaptation is_0 is_6) (omega arith)

pub returns-clause-short : goal.returns-clause-short
returns-clause-short c = λ few adaptation is_0 is_6. is_error _ _ (own_fields_short slice_ends c.over.ensures.state refl
    c.read.ensures (found _ adaptation is_0 is_6) (omega arith))

pub returns-clause-back : goal.returns-clause-back
returns-clause-back c = λ value more fits is.
    own_prefix_answered slice_ends c.over.ensures.state refl c.read.ensures (ap ((ts_header_decoder High).reads 0) (is ∙
    ap (λ w. w ++ more) (sym (told value) ∙ packs-whole (ts_header_packs High value fits) refl)) ∙
    c.ts_header_round_trip.ensures.back High value 0 0 more fits)
