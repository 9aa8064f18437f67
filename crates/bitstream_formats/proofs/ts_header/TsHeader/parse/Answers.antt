-- Made by `./format` from formats/ts_header.fields: edit that file and make this one anew.
use Rattle.bitstream_formats.specs.TsHeader.{ts_header_decoder, ts_header_at, const_at_0}
use Rattle.bitstream_formats.proofs.TsHeaderLemmas.{ts_header_packs, told}
use Rattle.bitstream_formats.specs.declared.ts_header.TsHeaderError.TheVariants.{NoSync}
use Rattle.std.proofs.Common.{◌≡◌, ◌≢◌, ◌<◌, ◌*◌, ◌++◌, ◌∙◌, ℕ, List, Ok, Err, length, refl, ap, sym, arith}
use Rattle.std.proofs.lemmas.Bool.{cases_lt}
use Rattle.std.proofs.lemmas.Bool.Decides.{eqb_tells}
use Rattle.bitstream_io.proofs.CallerLemmas.{Finds, inl, inr, is_error, own_answered, own_fields_there, own_fields_short, own_prefix_answered, slice_ends, bit-finds, unsigned-finds, const-finds, const-misses, pure-finds, packs-whole}
use Rattle.bitstream_io.specs.Callers.{High, bits}
use Rattle.bitstream_formats.proofs.ts_header.TsHeader.parse.Goals as goal

found : (packet : List ℕ) → const_at_0 (bits High packet) ≡ 71
    → Finds (bits High packet) 0 (ts_header_decoder High) 32 (Ok (Ok (ts_header_at (bits High packet))))
found packet is_0 = const-finds _ _ 8 32 _ High 71 _ refl is_0 (bit-finds _ _ 24 _ _ refl (bit-finds _ _ 23 _ _ refl
    (bit-finds _ _ 22 _ _ refl (unsigned-finds _ _ 13 21 _ High 16 _ refl refl (unsigned-finds _ _ 2 8 _ High 8 _ refl
    refl (bit-finds _ _ 6 _ _ refl (bit-finds _ _ 5 _ _ refl (unsigned-finds _ _ 4 4 _ High 8 _ refl refl (pure-finds _
    _ _)))))))))

other_0 : (packet : List ℕ) → const_at_0 (bits High packet) ≢ 71
    → Finds (bits High packet) 0 (ts_header_decoder High) 8 (Ok (Err NoSync))
other_0 packet differs = const-misses _ _ 8 8 _ High 71 _ refl differs (pure-finds _ _ _)

pub returns-clause-answer : goal.returns-clause-answer
returns-clause-answer c = own_answered slice_ends c.over.ensures.state refl c.read.ensures

pub returns-clause-no_sync : goal.returns-clause-no_sync
returns-clause-no_sync c = λ enough differs. own_fields_there slice_ends c.over.ensures.state refl c.read.ensures
    (other_0 _ differs) (omega arith)

pub returns-clause-there : goal.returns-clause-there
returns-clause-there c = λ enough is_0. own_fields_there slice_ends c.over.ensures.state refl c.read.ensures (found _
    is_0) (omega arith)

pub returns-clause-short : goal.returns-clause-short
returns-clause-short c = λ few at_0.
    let all = bits High c.args.packet.now in
    let ended = λ (n : ℕ) (x : _) (found : Finds all 0 (ts_header_decoder High) n x) (less : 8 * length
    c.args.packet.now < n). is_error _ _
    (own_fields_short slice_ends c.over.ensures.state refl c.read.ensures found less) in
    elim (eqb_tells (const_at_0 all) 71) [
      | inl is_0 ↦ ended 32 _ (found _ is_0.1) (omega arith)
      | inr differs ↦ elim
          (cases_lt (length c.args.packet.now) 1) [
            | inl less ↦ ended 8 _ (other_0 _ differs.1) (omega arith)
            | inr
                enough ↦ absurd (differs.1 (at_0 enough))
          ]
    ]

pub returns-clause-back : goal.returns-clause-back
returns-clause-back c = λ value more fits is.
    own_prefix_answered slice_ends c.over.ensures.state refl c.read.ensures (ap ((ts_header_decoder High).reads 0) (is ∙
    ap (λ w. w ++ more) (sym (told value) ∙ packs-whole (ts_header_packs High value fits) refl)) ∙
    c.ts_header_round_trip.ensures.back High value 0 0 more fits)
