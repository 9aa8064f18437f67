-- The value in the bytes of an option, by the code before them.
use Rattle.std.proofs.Common.{◌≡◌, ◌∙◌, ℕ, ◌*◌, List, length, take, Result, Ok, Err, refl, ap, sym, arith}
use Rattle.std.proofs.Math.Seq.{take-length}
use Rattle.std.proofs.lemmas.Bool.{ne_eqb}
use Rattle.bitstream_number.proofs.WordLemmas.{length-bits}
use Rattle.bitstream_value.proofs.SureLemmas.{mapped-word}
use Rattle.bitstream_io.specs.Callers.{Error, High, BitSource, Decoder, Reads, ReadsOwn, OwnAnswer, bits, number, unsigned_decoder, and_then, pure, part_then}
use Rattle.bitstream_io.proofs.CallerLemmas.{IsWord, unsigned-word, Reads-and_then-ok, Reads-pure}
use Rattle.bitstream_io.proofs.ReadsLemmas.{Reads-and_then-err}
use Rattle.bitstream_format.specs.Format.{format_if_made}
use Rattle.bitstream_format.specs.Sizes.{only, word-fills, word-misfits}
use Rattle.bitstream_format.specs.Examples.DhcpOption.{inside}
use Rattle.bitstream_format.specs.declared.examples.dhcp_option.DhcpOption.{DhcpOption}
use Rattle.bitstream_format.specs.declared.examples.dhcp_option.DhcpOption.TheVariants.{MessageType, LeaseTime}
use Rattle.bitstream_format.specs.declared.examples.dhcp_option.DhcpError.{DhcpError}
use Rattle.bitstream_format.specs.declared.examples.dhcp_option.DhcpError.TheVariants.{Reader, UnknownOption, WrongSize}

-- the value in these bytes after this code
abbrev pub said : ℕ → List ℕ → Result DhcpOption DhcpError
said code xs = only (format_if_made (inside code)) WrongSize (λ x. Reader x) High (bits High xs)

kind-word : IsWord ((format_if_made (inside 53)).read High) 8 (λ w. Ok (Ok (MessageType (number High w))))
kind-word = mapped-word (unsigned_decoder High 8 8) 8 (number High) (λ p. Ok (MessageType p))
    (unsigned-word High 8 8 (omega arith))

seconds-word : IsWord ((format_if_made (inside 51)).read High) 32 (λ w. Ok (Ok (LeaseTime (number High w))))
seconds-word = mapped-word (unsigned_decoder High 32 32) 32 (number High) (λ p. Ok (LeaseTime p))
    (unsigned-word High 32 32 (omega arith))

module _ (code v : ℕ) (xs : List ℕ) where
  pub kind-said : code ≡ 53 → length xs ≡ 1 → ◌≡◌ {A = Result ℕ Error} (Ok v) (Ok (number High (take 8 (bits High xs))))
      → Ok (MessageType v) ≡ said code xs
  kind-said is size found =
      let long : length (bits High xs) ≡ 8 = length-bits High xs ∙ ap (λ (k : ℕ). 8 * k) size in
      let whole : take 8 (bits High xs) ≡ bits High xs =
      ap (λ (k : ℕ). take k (bits High xs)) (sym long) ∙ take-length (bits High xs) in
      let same : v ≡ number High (take 8 (bits High xs)) = cc in
      let fills = word-fills (format_if_made (inside 53)) WrongSize (λ x. Reader x) High 8
      (λ w. MessageType (number High w)) kind-word (bits High xs) long in
      rw (is, fills, same, whole) refl

  pub seconds-said : code ≡ 51 → length xs ≡ 4 → ◌≡◌ {A = Result ℕ Error} (Ok v) (Ok (number High (take 32 (bits High xs))))
      → Ok (LeaseTime v) ≡ said code xs
  seconds-said is size found =
      let long : length (bits High xs) ≡ 32 = length-bits High xs ∙ ap (λ (k : ℕ). 8 * k) size in
      let whole : take 32 (bits High xs) ≡ bits High xs =
      ap (λ (k : ℕ). take k (bits High xs)) (sym long) ∙ take-length (bits High xs) in
      let same : v ≡ number High (take 32 (bits High xs)) = cc in
      let fills = word-fills (format_if_made (inside 51)) WrongSize (λ x. Reader x) High 32
      (λ w. LeaseTime (number High w)) seconds-word (bits High xs) long in
      rw (is, fills, same, whole) refl

module _ (code : ℕ) (xs : List ℕ) where
  pub kind-misfits : code ≡ 53 → (length xs ≡ 1 → ⊥) → Err WrongSize ≡ said code xs
  kind-misfits is size =
      let long = length-bits High xs in
      let misfits = word-misfits (format_if_made (inside 53)) WrongSize (λ x. Reader x) High 8
      (λ w. MessageType (number High w)) kind-word (bits High xs) (λ e. size (omega arith)) in
      rw (is, misfits) refl

  pub seconds-misfits : code ≡ 51 → (length xs ≡ 4 → ⊥) → Err WrongSize ≡ said code xs
  seconds-misfits is size =
      let long = length-bits High xs in
      let misfits = word-misfits (format_if_made (inside 51)) WrongSize (λ x. Reader x) High 32
      (λ w. LeaseTime (number High w)) seconds-word (bits High xs) (λ e. size (omega arith)) in
      rw (is, misfits) refl

  pub unknown-said : (code ≡ 53 → ⊥) → (code ≡ 51 → ⊥) → Err UnknownOption ≡ said code xs
  unknown-said kind seconds = rw (ne_eqb code 53 kind, ne_eqb code 51 seconds) refl

-- a last part with errors of its own, which is the whole value
last-by : {R A E : Type 0} {K : BitSource R} {becomes : Error → E → Type 0} {e : Decoder (Result A E)} {r : Result A E}
    {s t : R} (plain : Result (Result A E) Error) → Reads K e s plain t → OwnAnswer becomes (λ y. y) plain r
    → ReadsOwn K becomes (and_then e (part_then (λ a. pure (Ok a)))) s r t
last-by {e = e} {t = t} (Ok (Ok a)) h is = record {
  plain = Ok (Ok a);
  called = Reads-and_then-ok e (part_then (λ a. pure (Ok a))) h (Reads-pure (Ok a) t);
  answer = is;
}
last-by {e = e} {t = t} (Ok (Err x)) h is = record {
  plain = Ok (Err x);
  called = Reads-and_then-ok e (part_then (λ a. pure (Ok a))) h (Reads-pure (Err x) t);
  answer = is;
}
last-by {e = e} (Err y) h is =
    record { plain = Err y; called = Reads-and_then-err e (part_then (λ a. pure (Ok a))) h; answer = is }

pub last_part : {R A E : Type 0} {K : BitSource R} {becomes : Error → E → Type 0} {e : Decoder (Result A E)}
    {r : Result A E} {s t : R} → ReadsOwn K becomes e s r t
    → ReadsOwn K becomes (and_then e (part_then (λ a. pure (Ok a)))) s r t
last_part h = last-by h.plain h.called h.answer
