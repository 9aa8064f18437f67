-- Made by `./format` from formats/mark.fields: edit that file and make this one anew.
use Rattle.bitstream_messages.specs.Mark.{mark_decoder, mark_at, const_at_0}
use Rattle.bitstream_messages.proofs.MarkLemmas.{mark_packs, told}
use Rattle.bitstream_messages.specs.declared.mark.MarkError.TheVariants.{NoMark}
use Rattle.std.proofs.Common.{◌≡◌, ◌≢◌, ◌<◌, ◌*◌, ◌++◌, ◌∙◌, ℕ, List, Ok, Err, length, refl, ap, sym, arith}
use Rattle.std.proofs.lemmas.Bool.{cases_lt}
use Rattle.std.proofs.lemmas.Bool.Decides.{eqb_tells}
use Rattle.bitstream_io.proofs.CallerLemmas.{Finds, inl, inr, is_error, own_answered, own_fields_there, own_fields_short, own_prefix_answered, slice_ends, unsigned-finds, const-finds, const-misses, pure-finds, packs-whole}
use Rattle.bitstream_io.specs.Callers.{High, bits}
use Rattle.bitstream_messages.proofs.mark.Mark.parse.Goals as goal

found : (packet : List ℕ) → const_at_0 (bits High packet) ≡ 7
    → Finds (bits High packet) 0 (mark_decoder High) 16 (Ok (Ok (mark_at (bits High packet))))
found packet is_0 = const-finds _ _ 8 16 _ High 7 _ refl is_0 (unsigned-finds _ _ 8 8 _ High 8 _ refl refl (pure-finds _
    _ _))

other_0 : (packet : List ℕ) → const_at_0 (bits High packet) ≢ 7
    → Finds (bits High packet) 0 (mark_decoder High) 8 (Ok (Err NoMark))
other_0 packet differs = const-misses _ _ 8 8 _ High 7 _ refl differs (pure-finds _ _ _)

pub returns-clause-answer : goal.returns-clause-answer
returns-clause-answer c = own_answered slice_ends c.over.ensures.state refl c.read.ensures

pub returns-clause-no_mark : goal.returns-clause-no_mark
returns-clause-no_mark c = λ enough differs. own_fields_there slice_ends c.over.ensures.state refl c.read.ensures
    (other_0 _ differs) (omega arith)

pub returns-clause-there : goal.returns-clause-there
returns-clause-there c = λ enough is_0. own_fields_there slice_ends c.over.ensures.state refl c.read.ensures (found _
    is_0) (omega arith)

pub returns-clause-short : goal.returns-clause-short
returns-clause-short c = λ few at_0.
    let all = bits High c.args.packet.now in
    let ended = λ (n : ℕ) (x : _) (found : Finds all 0 (mark_decoder High) n x) (less : 8 * length c.args.packet.now <
    n). is_error _ _
    (own_fields_short slice_ends c.over.ensures.state refl c.read.ensures found less) in
    elim (eqb_tells (const_at_0 all) 7) [
      | inl is_0 ↦ ended 16 _ (found _ is_0.1) (omega arith)
      | inr differs ↦ elim
          (cases_lt (length c.args.packet.now) 1) [
            | inl less ↦ ended 8 _ (other_0 _ differs.1) (omega arith)
            | inr
                enough ↦ absurd (differs.1 (at_0 enough))
          ]
    ]

pub returns-clause-back : goal.returns-clause-back
returns-clause-back c = λ value more fits is.
    own_prefix_answered slice_ends c.over.ensures.state refl c.read.ensures (ap ((mark_decoder High).reads 0) (is ∙ ap
    (λ w. w ++ more) (sym (told value) ∙ packs-whole (mark_packs High value fits) refl)) ∙
    c.mark_round_trip.ensures.back High value 0 0 more fits)
