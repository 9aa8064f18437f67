-- Two encodings, one after the other.
use Rattle.std.proofs.Common.{◌≡◌, ℕ, ◌+◌, ◌*◌, ◌^◌, ◌≤◌, Bool, List, ◌++◌, length, drop, Result, Ok, Err, refl, ap, ◌∙◌, arith, add_comm}
use Rattle.bitstream_count.specs.declared.error.Error.{Error}
use Rattle.bitstream_count.specs.Codec.{Decoder, Prefix, Incomplete, Done, advance, and_then, pure, consume, prefix_then, result_then}
use Rattle.bitstream_number.specs.Word.{Order, High, Low, number}
use Rattle.bitstream_number.proofs.WordLemmas.{number-joined}
use Rattle.bitstream_stream.specs.Reading.ReadTable.{unsigned_decoder}
use Rattle.bitstream_stream.proofs.Reading.CodecLemmas.{Same, Same-trans, and_then_takes, map_takes}
use Rattle.bitstream_stream.proofs.Reading.TableLemmas.{unsigned-takes}

-- calls that read the same, after the same call
same_then : {A B : Type 0} (p : ℕ) (bits : List Bool) (f g : A → Decoder B) → ((a : A) → Same (f a) (g a))
    → (x : Prefix A)
    → prefix_then x (λ n a. (f a).reads (p + n) (drop n bits)) ≡ prefix_then x (λ n a. (g a).reads (p + n) (drop n bits))
same_then p bits f g same Incomplete = refl
same_then p bits f g same (Done n (Ok a)) = ap (advance n) ((same a).reads (p + n) (drop n bits))
same_then p bits f g same (Done n (Err e)) = refl

same_failed : {A B : Type 0} (f g : A → Decoder B) → ((a : A) → Same (f a) (g a)) → (r : Result A Error)
    → result_then r (λ a. (f a).on_failed) ≡ result_then r (λ a. (g a).on_failed)
same_failed f g same (Ok a) = (same a).on_failed
same_failed f g same (Err e) = refl

pub Same-and_then : {A B : Type 0} (e : Decoder A) (f g : A → Decoder B) → ((a : A) → Same (f a) (g a))
    → Same (and_then e f) (and_then e g)
unfolding and_then
Same-and_then e f g same = record {
  reads = λ p bits. same_then p bits f g same (e.reads p bits);
  on_failed =
      same_failed f g same e.on_failed;
}

words_join : (o : Order) (size a b : ℕ) (join : ℕ → ℕ → ℕ) → a + b ≤ size
    → ((u v : List Bool) → length u ≡ a → length v ≡ b → number o (u ++ v) ≡ join (number o u) (number o v))
    → Same (and_then (unsigned_decoder o size a) (λ first. and_then (unsigned_decoder o size b)
    (λ second. pure (join first second)))) (unsigned_decoder o size (a + b))
words_join o size a b join within law =
    rw (
      unsigned-takes o size a (omega arith),
      unsigned-takes o size b (omega arith),
      unsigned-takes o size (a + b) within,
    )
    (Same-trans
    (Same-and_then (consume a (λ w. Ok (number o w))) (λ first. and_then (consume b (λ w. Ok (number o w)))
    (λ second. pure (join first second))) (λ first. consume b (λ w. Ok (join first (number o w))))
    (λ first. map_takes b (number o) (λ second. join first second) (λ w. Ok (join first (number o w))) (λ w _. refl)))
    (and_then_takes a b (number o) (λ first w. Ok (join first (number o w))) (λ w. Ok (number o w))
    (λ u v lu lv. ap Ok (law u v lu lv))))

pub words_join-high : (size a b : ℕ) → a + b ≤ size
    → Same (and_then (unsigned_decoder High size a) (λ first. and_then (unsigned_decoder High size b)
    (λ second. pure (first * 2 ^ b + second)))) (unsigned_decoder High size (a + b))
words_join-high size a b within = words_join High size a b (λ first second. first * 2 ^ b + second) within
    (λ u v lu lv. number-joined High u v ∙ ap (λ k. number High u * 2 ^ k + number High v) lv)

pub words_join-low : (size a b : ℕ) → a + b ≤ size
    → Same (and_then (unsigned_decoder Low size a) (λ first. and_then (unsigned_decoder Low size b)
    (λ second. pure (first + second * 2 ^ a)))) (unsigned_decoder Low size (a + b))
words_join-low size a b within = words_join Low size a b (λ first second. first + second * 2 ^ a) within
    (λ u v lu lv. number-joined Low v u ∙ ap (λ k. number Low v * 2 ^ k + number Low u) lu
    ∙ add_comm (number Low v * 2 ^ a) (number Low u))
