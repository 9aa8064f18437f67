-- Made by `./format` from formats/adsb_message.fields: edit that file and make this one anew.
use Rattle.protocols.specs.AdsbMessage.{adsb_message_decoder, adsb_message_at, const_at_0}
use Rattle.protocols.proofs.AdsbMessageLemmas.{adsb_message_packs, told}
use Rattle.protocols.specs.declared.adsb_message.AdsbError.TheVariants.{OtherFormat}
use Rattle.std.proofs.Common.{◌≡◌, ◌≢◌, ◌<◌, ◌*◌, ◌++◌, ◌∙◌, ℕ, List, Ok, Err, length, refl, ap, sym, arith}
use Rattle.std.proofs.lemmas.Bool.{cases_lt}
use Rattle.std.proofs.lemmas.Bool.Decides.{eqb_tells}
use Rattle.bitstream_io.proofs.CallerLemmas.{Finds, inl, inr, is_error, own_answered, own_fields_there, own_fields_short, own_prefix_answered, slice_ends, unsigned-finds, const-finds, const-misses, pure-finds, packs-whole}
use Rattle.bitstream_io.specs.Callers.{High, bits}
use Rattle.protocols.proofs.adsb_message.AdsbMessage.parse.Goals as goal

found : (packet : List ℕ) → const_at_0 (bits High packet) ≡ 17
    → Finds (bits High packet) 0 (adsb_message_decoder High) 112 (Ok (Ok (adsb_message_at (bits High packet))))
found packet is_0 = const-finds _ _ 5 112 _ High 17 _ refl is_0 (unsigned-finds _ _ 3 107 _ High 8 _ refl refl
    (unsigned-finds _ _ 24 104 _ High 32 _ refl refl (unsigned-finds _ _ 5 80 _ High 8 _ refl refl (unsigned-finds _ _
    51 75 _ High 64 _ refl refl (unsigned-finds _ _ 24 24 _ High 32 _ refl refl (pure-finds _ _ _))))))

other_0 : (packet : List ℕ) → const_at_0 (bits High packet) ≢ 17
    → Finds (bits High packet) 0 (adsb_message_decoder High) 5 (Ok (Err OtherFormat))
other_0 packet differs = const-misses _ _ 5 5 _ High 17 _ refl differs (pure-finds _ _ _)

pub returns-clause-answer : goal.returns-clause-answer
returns-clause-answer c = own_answered slice_ends c.over.ensures.state refl c.read.ensures

pub returns-clause-other_format : goal.returns-clause-other_format
returns-clause-other_format c = λ enough differs. own_fields_there slice_ends c.over.ensures.state refl c.read.ensures
    (other_0 _ differs) (omega arith)

pub returns-clause-there : goal.returns-clause-there
returns-clause-there c = λ enough is_0. own_fields_there slice_ends c.over.ensures.state refl c.read.ensures (found _
    is_0) (omega arith)

pub returns-clause-short : goal.returns-clause-short
returns-clause-short c = λ few at_0.
    let all = bits High c.args.packet.now in
    let ended = λ (n : ℕ) (x : _) (found : Finds all 0 (adsb_message_decoder High) n x) (less : 8 * length
    c.args.packet.now < n). is_error _ _
    (own_fields_short slice_ends c.over.ensures.state refl c.read.ensures found less) in
    elim (eqb_tells (const_at_0 all) 17) [
      | inl is_0 ↦ ended 112 _ (found _ is_0.1) (omega arith)
      | inr differs ↦ elim
          (cases_lt (length c.args.packet.now) 1) [
            | inl less ↦ ended 5 _ (other_0 _ differs.1) (omega arith)
            | inr
                enough ↦ absurd (differs.1 (at_0 enough))
          ]
    ]

pub returns-clause-back : goal.returns-clause-back
returns-clause-back c = λ value more fits is.
    own_prefix_answered slice_ends c.over.ensures.state refl c.read.ensures (ap ((adsb_message_decoder High).reads 0)
    (is ∙ ap (λ w. w ++ more) (sym (told value) ∙ packs-whole (adsb_message_packs High value fits) refl)) ∙
    c.adsb_message_round_trip.ensures.back High value 0 0 more fits)
