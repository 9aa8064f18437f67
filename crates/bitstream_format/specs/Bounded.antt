-- Numbers with a greatest value of their own, as `./format` prints them: the read of a greater one fails, after its bits were
-- taken, and nothing of it is written.
use Rattle.std.proofs.Common.{◌≡◌, ◌∙◌, ℕ, ◌<◌, ◌≤◌, ◌/◌, Bool, true, false, List, [], ◌∷◌, ◌++◌, Result, Ok, Err, refl, sym, ap, subst, arith}
use Rattle.std.specs.Prelude.{nat_le, if◌then◌else◌}
use Rattle.std.proofs.lemmas.Bool.{le-leb}
use Rattle.bitstream_value.specs.Lengths.{counted_bits}
use Rattle.bitstream_io.specs.Callers.{Encoder, Error, Order, High, pure, unsigned}
use Rattle.bitstream_io.proofs.CallerLemmas.{RoundTrip, Packs}
use Rattle.bitstream_format.specs.Format.{AllOf, Part, first_of_facts, others_of_facts}
use Rattle.bitstream_format.specs.Measured.{Written}
use Rattle.bitstream_format.specs.SizeLaws.{counted-is}

-- a number of at most `most`; `err` if a greater one is read, and the parts after it are not read then
abbrev pub own_bounded : {S B E : Type 0} → ℕ → E → Part S (Result B E) ℕ → Part S (Result B E) ℕ
own_bounded most err p = record p {
  read = λ o f. p.read o (λ v. if nat_le v most then f v else pure (Err err));
  facts = λ s. p.facts s ++ ((p.get s ≤ most) ∷ []);
  round_trip = λ o s f es w fits made rest.
      p.round_trip o s (λ v. if nat_le v most then f v else pure (Err err)) es w
      (first_of_facts (p.facts s) ((p.get s ≤ most) ∷ []) fits) made
      (rw (le-leb (p.get s) most (others_of_facts (p.facts s) ((p.get s ≤ most) ∷ []) fits)) rest);
  packs = λ o s fits made. p.packs o s (first_of_facts (p.facts s) ((p.get s ≤ most) ∷ []) fits) made;
  besides = λ s. p.facts s ++ ((p.get s ≤ most) ∷ []);
  accepted = λ o s at fits all. fits;
}

-- the writes of a number of at most `most`; a greater one is rejected, as one bit does not hold 2
abbrev pub within_most : ℕ → ℕ → Order → List Encoder → List Encoder
within_most most n o encoders = if nat_le n most then encoders else unsigned o 8 1 2 ∷ []

-- the same part, which also writes no greater number
abbrev pub own_limited : {S B E : Type 0} → ℕ → E → Part S (Result B E) ℕ → Part S (Result B E) ℕ
own_limited most err p = record (own_bounded most err p) {
  write = λ o s. within_most most (p.get s) o (p.write o s);
  round_trip = λ o s f es w fits made rest.
      rw (le-leb (p.get s) most (others_of_facts (p.facts s) ((p.get s ≤ most) ∷ []) fits))
      ((own_bounded most err p).round_trip o s f es w fits made rest);
  packs = λ o s fits made.
      rw (le-leb (p.get s) most (others_of_facts (p.facts s) ((p.get s ≤ most) ∷ []) fits))
      ((own_bounded most err p).packs o s fits made);
  accepted = λ o s at fits all. fits;
}

-- the writes of a size of at most `most`, which `stated` gives for the counted bits of a part; if their count failed, the
-- writes fail as they do without a greatest value
abbrev pub within_counted : ℕ → (ℕ → ℕ) → Result ℕ Error → Order → List Encoder → List Encoder
within_counted most stated (Ok n) o encoders = within_most most (stated n) o encoders
within_counted most stated (Err error) o encoders = encoders

pub within_counted-is : (most : ℕ) (stated : ℕ → ℕ) (o : Order) (encoders written : List Encoder) (m k : ℕ)
    → Packs written m → m ≤ 18446744073709551615 → stated m ≡ k → k ≤ most
    → within_counted most stated (counted_bits 18446744073709551615 written 0) o encoders ≡ encoders
within_counted-is most stated o encoders written m k packs few is le =
    ap (λ c. within_counted most stated c o encoders) (counted-is written m packs few) ∙ rw (is, le-leb k most le) refl

-- the size of a later part, of at most `most`; `err` if a greater one is read, and a greater one is not written
abbrev pub own_limited_size : {S B E A : Type 0} (most : ℕ) → E → (stated : ℕ → ℕ) (P : Written A) (get : S → A)
    (p : Part S (Result B E) ℕ) → ((s : S) → stated (P.size (get s)) ≡ p.get s)
    → ((s : S) → AllOf (p.facts s) → P.fits (get s) × (P.size (get s) ≤ 18446744073709551615))
    → Part S (Result B E) ℕ
own_limited_size most err stated P get p is known = record (own_bounded most err p) {
  write = λ o s.
      within_counted most stated (counted_bits 18446744073709551615 (P.write High (get s)) 0) o (p.write o s);
  round_trip = λ o s f es w fits made rest.
      let facts = known s (first_of_facts (p.facts s) ((p.get s ≤ most) ∷ []) fits) in
      let same = within_counted-is most stated o (p.write o s) (P.write High (get s)) (P.size (get s)) (p.get s)
      (P.packs High (get s) facts.0) facts.1 (is s) (others_of_facts (p.facts s) ((p.get s ≤ most) ∷ []) fits) in
      subst (λ (x : List Encoder). RoundTrip ((own_bounded most err p).read o f) (x ++ es) w) (sym same)
      ((own_bounded most err p).round_trip o s f es w fits made rest);
  packs = λ o s fits made.
      let facts = known s (first_of_facts (p.facts s) ((p.get s ≤ most) ∷ []) fits) in
      let same = within_counted-is most stated o (p.write o s) (P.write High (get s)) (P.size (get s)) (p.get s)
      (P.packs High (get s) facts.0) facts.1 (is s) (others_of_facts (p.facts s) ((p.get s ≤ most) ∷ []) fits) in
      subst (λ (x : List Encoder). Packs x (p.size s)) (sym same) ((own_bounded most err p).packs o s fits made);
  accepted = λ o s at fits all. fits;
}
