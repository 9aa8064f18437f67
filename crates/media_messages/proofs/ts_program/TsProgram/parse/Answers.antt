-- Made by `./format` from formats/ts_program.fields: edit that file and make this one anew.
use Rattle.media_messages.specs.TsProgram.{ts_program_decoder, ts_program_at, const_at_16}
use Rattle.media_messages.proofs.TsProgramLemmas.{ts_program_packs, told}
use Rattle.media_messages.specs.declared.ts_program.TsProgramError.TheVariants.{ZeroReserved}
use Rattle.std.proofs.Common.{◌≡◌, ◌≢◌, ◌<◌, ◌*◌, ◌++◌, ◌∙◌, ℕ, List, Ok, Err, length, refl, ap, sym, arith}
use Rattle.std.proofs.lemmas.Bool.{cases_lt}
use Rattle.std.proofs.lemmas.Bool.Decides.{eqb_tells}
use Rattle.bitstream_io.proofs.CallerLemmas.{Finds, inl, inr, is_error, own_answered, own_fields_there, own_fields_short, own_prefix_answered, slice_ends, unsigned-finds, const-finds, const-misses, pure-finds, packs-whole}
use Rattle.bitstream_io.specs.Callers.{High, bits}
use Rattle.media_messages.proofs.ts_program.TsProgram.parse.Goals as goal

found : (packet : List ℕ) → const_at_16 (bits High packet) ≡ 7
    → Finds (bits High packet) 0 (ts_program_decoder High) 32 (Ok (Ok (ts_program_at (bits High packet))))
found packet is_1 = unsigned-finds _ _ 16 32 _ High 16 _ refl refl (const-finds _ _ 3 16 _ High 7 _ refl is_1
    (unsigned-finds _ _ 13 13 _ High 16 _ refl refl (pure-finds _ _ _)))

other_1 : (packet : List ℕ) → const_at_16 (bits High packet) ≢ 7
    → Finds (bits High packet) 0 (ts_program_decoder High) 19 (Ok (Err ZeroReserved))
other_1 packet differs = unsigned-finds _ _ 16 19 _ High 16 _ refl refl (const-misses _ _ 3 3 _ High 7 _ refl differs
    (pure-finds _ _ _))

pub returns-clause-answer : goal.returns-clause-answer
returns-clause-answer c = own_answered slice_ends c.over.ensures.state refl c.read.ensures

pub returns-clause-zero_reserved : goal.returns-clause-zero_reserved
returns-clause-zero_reserved c = λ enough differs. own_fields_there slice_ends c.over.ensures.state refl c.read.ensures
    (other_1 _ differs) (omega arith)

pub returns-clause-there : goal.returns-clause-there
returns-clause-there c = λ enough is_1. own_fields_there slice_ends c.over.ensures.state refl c.read.ensures (found _
    is_1) (omega arith)

pub returns-clause-short : goal.returns-clause-short
returns-clause-short c = λ few at_1.
    let all = bits High c.args.packet.now in
    let ended = λ (n : ℕ) (x : _) (found : Finds all 0 (ts_program_decoder High) n x) (less : 8 * length
    c.args.packet.now < n). is_error _ _
    (own_fields_short slice_ends c.over.ensures.state refl c.read.ensures found less) in
    elim (eqb_tells (const_at_16 all) 7) [
      | inl is_1 ↦ ended 32 _ (found _ is_1.1) (omega arith)
      | inr differs ↦ elim
          (cases_lt (length c.args.packet.now) 3) [
            | inl less ↦ ended 19 _ (other_1 _ differs.1) (omega arith)
            | inr
                enough ↦ absurd (differs.1 (at_1 enough))
          ]
    ]

pub returns-clause-back : goal.returns-clause-back
returns-clause-back c = λ value more fits is.
    own_prefix_answered slice_ends c.over.ensures.state refl c.read.ensures (ap ((ts_program_decoder High).reads 0) (is
    ∙ ap (λ w. w ++ more) (sym (told value) ∙ packs-whole (ts_program_packs High value fits) refl)) ∙
    c.ts_program_round_trip.ensures.back High value 0 0 more fits)
