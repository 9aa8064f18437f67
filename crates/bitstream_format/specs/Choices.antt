-- One of several formats, chosen by a part before them.
use Rattle.std.proofs.Common.{◌≡◌, Bool, true, false, [], ◌∷◌, Option, Some, None, Result, Ok, Err, subst}
use Rattle.std.specs.Prelude.{if◌then◌else◌}
use Rattle.bitstream_io.specs.Callers.{and_then, pure, Order, part_then, optional_writes, optional_size}
use Rattle.bitstream_io.proofs.CallsBack.{then_made-read, mapped-read}
use Rattle.bitstream_io.proofs.CallerLemmas.{RoundTrip, Packs, packs-none}
use Rattle.bitstream_format.specs.Format.{Own, Plain, Parts, Facts, AllOf}

-- the value is this case: what the case holds makes it
abbrev pub IsCase : {P S : Type 0} → (P → S) → Option P → S → Type 0
IsCase wrap None s = ⊥
IsCase wrap (Some p) s = wrap p ≡ s

-- what must fit of a case, if the value is that case
abbrev pub case_facts : {P : Type 0} → (P → Facts) → Option P → Facts
case_facts facts None = []
case_facts facts (Some p) = facts p

module _ {P S E : Type 0} (F : Own E P) (o : Order) (wrap : P → S) (s : S) where
  pub case-goes : (x : Option P) → AllOf (case_facts F.facts x) → IsCase wrap x s
      → RoundTrip (and_then (F.read o) (part_then {E = E} (λ p. pure (Ok (wrap p))))) (optional_writes (F.write o) x) (Ok s)
  case-goes None fits is = absurd is
  case-goes (Some p) fits is =
      let e = and_then (F.read o) (part_then {E = E} (λ p. pure (Ok (wrap p)))) in
      subst (λ (y : S). RoundTrip e (F.write o p) (Ok y)) is
      (record { back = then_made-read (F.read o) wrap (F.write o p) p (F.round_trip o p fits).back })

  pub case-packs : (x : Option P) → AllOf (case_facts F.facts x) → IsCase wrap x s
      → Packs (optional_writes (F.write o) x) (optional_size F.size x)
  case-packs None fits is = packs-none
  case-packs (Some p) fits is = F.packs o p fits

-- a case of an enum by the format of what it holds; no part follows it
abbrev pub case : {P S E : Type 0} → Own E P → (P → S) → (S → Option P) → Parts S (Result S E) (λ s. Ok s)
case F wrap payload = record {
  read = λ o. and_then (F.read o) (part_then (λ p. pure (Ok (wrap p))));
  write = λ o s. optional_writes (F.write o) (payload s);
  size = λ s. optional_size F.size (payload s);
  facts = λ s. case_facts F.facts (payload s);
  made = λ s. IsCase wrap (payload s) s ∷ [];
  round_trip = λ o s fits is. case-goes F o wrap s (payload s) fits is;
  packs = λ o s fits is. case-packs F o wrap s (payload s) fits is;
  besides = λ s. case_facts F.facts (payload s);
  accepted = λ o s at fits all. fits;
}

module _ {P S : Type 0} (F : Plain P) (o : Order) (wrap : P → S) (s : S) where
  pub plain_case-goes : {E : Type 0} (x : Option P) → AllOf (case_facts F.facts x) → IsCase wrap x s
      → RoundTrip {A = Result S E} (and_then (F.read o) (λ p. pure (Ok (wrap p)))) (optional_writes (F.write o) x) (Ok s)
  plain_case-goes {E = E} None fits is = absurd is
  plain_case-goes {E = E} (Some p) fits is =
      let make : P → Result S E = λ q. Ok (wrap q) in
      subst (λ (y : S). RoundTrip {A = Result S E} (and_then (F.read o) (λ q. pure (make q))) (F.write o p) (Ok y)) is
      (record { back = mapped-read make (F.write o p) (F.read o) p (F.round_trip o p fits).back })

  pub plain_case-packs : (x : Option P) → AllOf (case_facts F.facts x) → IsCase wrap x s
      → Packs (optional_writes (F.write o) x) (optional_size F.size x)
  plain_case-packs None fits is = packs-none
  plain_case-packs (Some p) fits is = F.packs o p fits

-- the same of a format with no errors of its own
abbrev pub plain_case : {P S E : Type 0} → Plain P → (P → S) → (S → Option P) → Parts S (Result S E) (λ s. Ok s)
plain_case F wrap payload = record {
  read = λ o. and_then (F.read o) (λ p. pure (Ok (wrap p)));
  write = λ o s. optional_writes (F.write o) (payload s);
  size = λ s. optional_size F.size (payload s);
  facts = λ s. case_facts F.facts (payload s);
  made = λ s. IsCase wrap (payload s) s ∷ [];
  round_trip = λ o s fits is. plain_case-goes F o wrap s (payload s) fits is;
  packs = λ o s fits is. plain_case-packs F o wrap s (payload s) fits is;
  besides = λ s. case_facts F.facts (payload s);
  accepted = λ o s at fits all. fits;
}

-- no case at all, and the error that a read returns
abbrev pub refused : {S E : Type 0} → E → Parts S (Result S E) (λ s. Ok s)
refused err = record {
  read = λ o. pure (Err err);
  write = λ o s. [];
  size = λ s. 0;
  facts = λ s. [];
  made = λ s. ⊥ ∷ [];
  round_trip = λ o s fits is. absurd is;
  packs = λ o s fits is. absurd is;
  besides = λ s. [];
  accepted = λ o s at more all. tt;
}

-- ---- one or the other

-- the first facts if a condition holds, and else the second ones
abbrev pub facts_if : Bool → Facts → Facts → Facts
facts_if true Ps Qs = Ps
facts_if false Ps Qs = Qs

module _ {S W : Type 0} {ok : S → W} (x y : Parts S W ok) (o : Order) (s : S) where
  pub choose-goes : (b : Bool) → AllOf (facts_if b (x.facts s) (y.facts s)) → AllOf (facts_if b (x.made s) (y.made s))
      → RoundTrip (if b then x.read o else y.read o) (if b then x.write o s else y.write o s) (ok s)
  choose-goes true fits made = x.round_trip o s fits made
  choose-goes false fits made = y.round_trip o s fits made

  pub choose-packs : (b : Bool) → AllOf (facts_if b (x.facts s) (y.facts s)) → AllOf (facts_if b (x.made s) (y.made s))
      → Packs (if b then x.write o s else y.write o s) (if b then x.size s else y.size s)
  choose-packs true fits made = x.packs o s fits made
  choose-packs false fits made = y.packs o s fits made

-- the first parts if the condition holds, as `tag == 1`, and else the second ones
abbrev pub choose : {S W : Type 0} {ok : S → W} → Bool → Parts S W ok → Parts S W ok → Parts S W ok
choose b x y = record {
  read = λ o. if b then x.read o else y.read o;
  write = λ o s. if b then x.write o s else y.write o s;
  size = λ s. if b then x.size s else y.size s;
  facts = λ s. facts_if b (x.facts s) (y.facts s);
  made = λ s. facts_if b (x.made s) (y.made s);
  round_trip = λ o s fits made. choose-goes x y o s b fits made;
  packs = λ o s fits made. choose-packs x y o s b fits made;
  besides = λ s. facts_if b (x.facts s) (y.facts s);
  accepted = λ o s at fits all. fits;
}
