-- Formats as values: what is read, what is written, what must fit, the number of bits, and two laws. By the law of round trip
-- what was written is read back. By the law of length each call is accepted, and the calls append the stated number of bits.
-- A format is made of parts in a `do` block, and its laws are proved with it.
use Rattle.std.proofs.Common.{◌≡◌, ℕ, ◌+◌, ◌^◌, Bool, true, false, List, [], ◌∷◌, ◌++◌, length, Result, Ok, Err, refl, arith, subst}
use Rattle.std.specs.Prelude.{nat_lt, if◌then◌else◌}
use Rattle.bitstream_io.specs.Callers.{Decoder, Encoder, Done, AllAccepted, and_then, pure, Order, High, align, word, const_decoder, plain, write_sequence, part_then}
use Rattle.bitstream_io.proofs.CallerLemmas.{RoundTrip, Packs, part-back, literal-back, pure-back, packs-none, packs-more, packs-part, packs-is, const-written, accepted-first, accepted-second}

-- ---- lists of facts

-- facts about a value, as a list of types
abbrev pub Facts : Type 1
Facts = List (Type 0)

-- all of them: none is nothing, one is itself, more are a tuple
abbrev pub AllOf : Facts → Type 0
AllOf [] = Unit {0}
AllOf (P ∷ []) = P
AllOf (P ∷ Q ∷ Ps) = P × AllOf (Q ∷ Ps)

pub first_of_facts : (Ps Qs : Facts) → AllOf (Ps ++ Qs) → AllOf Ps
first_of_facts [] Qs h = tt
first_of_facts (P ∷ []) [] h = h
first_of_facts (P ∷ []) (Q ∷ Qs) h = h.0
first_of_facts (P ∷ Q ∷ Ps) Qs h = (h.0, first_of_facts (Q ∷ Ps) Qs h.1)

pub others_of_facts : (Ps Qs : Facts) → AllOf (Ps ++ Qs) → AllOf Qs
others_of_facts [] Qs h = h
others_of_facts (P ∷ []) [] h = tt
others_of_facts (P ∷ []) (Q ∷ Qs) h = h.1
others_of_facts (P ∷ Q ∷ Ps) Qs h = others_of_facts (Q ∷ Ps) Qs h.1

pub both_of_facts : (Ps Qs : Facts) → AllOf Ps → AllOf Qs → AllOf (Ps ++ Qs)
both_of_facts [] Qs first others = others
both_of_facts (P ∷ []) [] first others = first
both_of_facts (P ∷ []) (Q ∷ Qs) first others = (first, others)
both_of_facts (P ∷ Q ∷ Ps) Qs first others = (first.0, both_of_facts (Q ∷ Ps) Qs first.1 others)

infixr 4 ◌&◌
-- one fact and others
abbrev pub ◌&◌ : {P Q : Type 0} → P → Q → P × Q
p & q = (p, q)

-- no fact if the test is true, and else one that never holds
abbrev pub none_if : Bool → Facts
none_if true = []
none_if false = ⊥ ∷ []

pub none_if-true : (test : Bool) → AllOf (none_if test) → test ≡ true
none_if-true true none = refl
none_if-true false none = absurd none

-- ---- formats

-- a format of the values of A; its read returns `ok a` for the value a that was written
pub record Format (A V : Type 0) (ok : A → V) : Type 1 where
  -- what is read
  pub read : Order → Decoder V
  -- what is written
  pub write : Order → A → List Encoder
  -- the number of bits
  pub size : A → ℕ
  -- what must fit
  pub facts : A → Facts
  -- what was written is read back at any place, and only its bits are taken
  pub round_trip : (o : Order) (a : A) → AllOf (facts a) → RoundTrip (read o) (write o a) (ok a)
  -- each call is accepted, and together they append `size` bits
  pub packs : (o : Order) (a : A) → AllOf (facts a) → Packs (write o a) (size a)
  -- what must hold too, for accepted calls to show that the value fits
  pub besides : A → Facts
  -- then a value whose calls are accepted fits
  pub accepted : (o : Order) (a : A) (at : ℕ) → AllOf (besides a) → AllAccepted (write o a) at → AllOf (facts a)

-- a format whose read has no error but the reader's
abbrev pub Plain : Type 0 → Type 1
Plain A = Format A A (λ a. a)

-- a format whose read has errors of its own
abbrev pub Own : Type 0 → Type 0 → Type 1
Own E A = Format A (Result A E) (λ a. Ok a)

-- the value fits its bits
abbrev pub Fits : {A V : Type 0} {ok : A → V} → Format A V ok → A → Type 0
Fits F a = AllOf (F.facts a)

-- the same format, whose facts have names: the fields of a record from which the facts follow
abbrev pub named : {A V : Type 0} {ok : A → V} (Named : A → Type 0) (F : Format A V ok)
    → ((a : A) → Named a → Fits F a) → Format A V ok
named Named F facts = record F {
  facts = λ a. Named a ∷ [];
  round_trip = λ o a fits. F.round_trip o a (facts a fits);
  packs = λ o a fits. F.packs o a (facts a fits);
  besides = λ a. Named a ∷ [];
  accepted = λ o a at fits all. fits;
}

-- the same, where the facts give the record too: then accepted calls show that a value fits as before
abbrev pub renamed : {A V : Type 0} {ok : A → V} (Named : A → Type 0) (F : Format A V ok)
    → ((a : A) → Named a → Fits F a) → ((a : A) → Fits F a → Named a) → Format A V ok
renamed Named F facts names = record (named Named F facts) {
  besides = F.besides;
  accepted = λ o a at more all. names a (F.accepted o a at more all);
}

-- ---- parts

-- one part of a value of S; its read hands an A to the parts after it, and the whole read returns a W
pub record Part (S W A : Type 0) : Type 1 where
  pub read : Order → (A → Decoder W) → Decoder W
  pub get : S → A
  pub write : Order → S → List Encoder
  pub size : S → ℕ
  -- what must fit
  pub facts : S → Facts
  -- what holds by the way the value is made: a count is a length
  pub made : S → Facts
  pub round_trip : (o : Order) (s : S) (f : A → Decoder W) (es : List Encoder) (w : W) → AllOf (facts s)
      → AllOf (made s) → RoundTrip (f (get s)) es w → RoundTrip (read o f) (write o s ++ es) w
  pub packs : (o : Order) (s : S) → AllOf (facts s) → AllOf (made s) → Packs (write o s) (size s)
  pub besides : S → Facts
  pub accepted : (o : Order) (s : S) (at : ℕ) → AllOf (besides s) → AllAccepted (write o s) at → AllOf (facts s)

-- parts up to the end of the value
pub record Parts (S W : Type 0) (ok : S → W) : Type 1 where
  pub read : Order → Decoder W
  pub write : Order → S → List Encoder
  pub size : S → ℕ
  pub facts : S → Facts
  pub made : S → Facts
  pub round_trip : (o : Order) (s : S) → AllOf (facts s) → AllOf (made s) → RoundTrip (read o) (write o s) (ok s)
  pub packs : (o : Order) (s : S) → AllOf (facts s) → AllOf (made s) → Packs (write o s) (size s)
  pub besides : S → Facts
  pub accepted : (o : Order) (s : S) (at : ℕ) → AllOf (besides s) → AllAccepted (write o s) at → AllOf (facts s)

-- one part and then the parts after it, which may depend on its value
abbrev pub join : {S W A : Type 0} {ok : S → W} → Part S W A → (A → Parts S W ok) → Parts S W ok
join p k = record {
  read = λ o. p.read o (λ a. (k a).read o);
  write = λ o s. p.write o s ++ (k (p.get s)).write o s;
  size = λ s. p.size s + (k (p.get s)).size s;
  facts = λ s. p.facts s ++ (k (p.get s)).facts s;
  made = λ s. p.made s ++ (k (p.get s)).made s;
  round_trip = λ o s fits made.
      let rest = k (p.get s) in
      p.round_trip o s (λ a. (k a).read o) (rest.write o s) _ (first_of_facts (p.facts s) (rest.facts s) fits)
      (first_of_facts (p.made s) (rest.made s) made)
      (rest.round_trip o s (others_of_facts (p.facts s) (rest.facts s) fits)
      (others_of_facts (p.made s) (rest.made s) made));
  packs = λ o s fits made.
      let rest = k (p.get s) in
      packs-part (p.packs o s (first_of_facts (p.facts s) (rest.facts s) fits)
      (first_of_facts (p.made s) (rest.made s) made))
      (rest.packs o s (others_of_facts (p.facts s) (rest.facts s) fits) (others_of_facts (p.made s) (rest.made s) made));
  besides = λ s. p.besides s ++ (k (p.get s)).besides s;
  accepted = λ o s at more all.
      let rest = k (p.get s) in
      both_of_facts (p.facts s) (rest.facts s)
      (p.accepted o s at (first_of_facts (p.besides s) (rest.besides s) more)
      (accepted-first (p.write o s) (rest.write o s) at all))
      (rest.accepted o s (at + length (write_sequence (p.write o s) at)) (others_of_facts (p.besides s) (rest.besides s) more)
      (accepted-second (p.write o s) (rest.write o s) at all));
}

infixl 10 ◌>>=◌
-- the same, as a line of a `do` block
abbrev pub ◌>>=◌ : {S W A : Type 0} {ok : S → W} → Part S W A → (A → Parts S W ok) → Parts S W ok
p >>= k = join p k

-- the end of the parts, and the value that they make
abbrev pub done : {S : Type 0} → S → Parts S S (λ s. s)
done {S = S} all = record {
  read = λ o. pure all;
  write = λ o s. [];
  size = λ s. 0;
  facts = λ s. [];
  made = λ s. (all ≡ s) ∷ [];
  round_trip = λ o s fits is. subst (RoundTrip (pure all) []) is (pure-back all);
  packs = λ o s fits is. packs-none;
  besides = λ s. [];
  accepted = λ o s at more all. tt;
}

-- the same of a read that has errors of its own
abbrev pub own_done : {S E : Type 0} → S → Parts S (Result S E) (λ s. Ok s)
own_done {S = S} {E = E} all = record {
  read = λ o. pure (Ok all);
  write = λ o s. [];
  size = λ s. 0;
  facts = λ s. [];
  made = λ s. (all ≡ s) ∷ [];
  round_trip = λ o s fits is.
      subst (λ (x : S). RoundTrip {A = Result S E} (pure (Ok all)) [] (Ok x)) is (pure-back (Ok all));
  packs = λ o s fits is. packs-none;
  besides = λ s. [];
  accepted = λ o s at more all. tt;
}

-- parts as a format: what they make of a value that was written is that value
abbrev pub format : {S W : Type 0} {ok : S → W} (p : Parts S W ok) → ((s : S) → AllOf (p.made s)) → Format S W ok
format p made = record {
  read = p.read;
  write = p.write;
  size = p.size;
  facts = p.facts;
  round_trip = λ o s fits. p.round_trip o s fits (made s);
  packs = λ o s fits. p.packs o s fits (made s);
  besides = p.besides;
  accepted = p.accepted;
}

-- the same, but the facts state that the parts make the value: for a case whose tag is read before its size
abbrev pub format_if_made : {S W : Type 0} {ok : S → W} → Parts S W ok → Format S W ok
format_if_made p = record {
  read = p.read;
  write = p.write;
  size = p.size;
  facts = λ s. AllOf (p.facts s) ∷ AllOf (p.made s) ∷ [];
  round_trip = λ o s fits. p.round_trip o s fits.0 fits.1;
  packs = λ o s fits. p.packs o s fits.0 fits.1;
  besides = λ s. AllOf (p.facts s) ∷ AllOf (p.made s) ∷ [];
  accepted = λ o s at fits all. fits;
}

-- ---- parts of a value

-- a field of a format whose read has no error but the reader's
abbrev pub field : {S W A : Type 0} → Plain A → (S → A) → Part S W A
field F get = record {
  read = λ o f. and_then (F.read o) f;
  get = get;
  write = λ o s. F.write o (get s);
  size = λ s. F.size (get s);
  facts = λ s. F.facts (get s);
  made = λ s. [];
  round_trip = λ o s f es w fits made rest.
      part-back (F.read o) f (F.write o (get s)) es (get s) w (F.round_trip o (get s) fits).back rest;
  packs = λ o s fits made. F.packs o (get s) fits;
  besides = λ s. F.besides (get s);
  accepted = λ o s at more all. F.accepted o (get s) at more all;
}

-- a field of a format with errors of its own
abbrev pub own_field : {S A B E : Type 0} → Own E A → (S → A) → Part S (Result B E) A
own_field F get = record {
  read = λ o f. and_then (F.read o) (part_then f);
  get = get;
  write = λ o s. F.write o (get s);
  size = λ s. F.size (get s);
  facts = λ s. F.facts (get s);
  made = λ s. [];
  round_trip = λ o s f es w fits made rest.
      part-back (F.read o) (part_then f) (F.write o (get s)) es (Ok (get s)) w (F.round_trip o (get s) fits).back rest;
  packs = λ o s fits made. F.packs o (get s) fits;
  besides = λ s. F.besides (get s);
  accepted = λ o s at more all. F.accepted o (get s) at more all;
}

-- the same part, whose value is not made from other fields: what is otherwise so by its making must fit
abbrev pub free : {S W A : Type 0} → Part S W A → Part S W A
free p = record p {
  facts = λ s. p.facts s ++ p.made s;
  made = λ s. [];
  round_trip = λ o s f es w fits made rest.
      p.round_trip o s f es w (first_of_facts (p.facts s) (p.made s) fits) (others_of_facts (p.facts s) (p.made s) fits)
      rest;
  packs = λ o s fits made.
      p.packs o s (first_of_facts (p.facts s) (p.made s) fits) (others_of_facts (p.facts s) (p.made s) fits);
  besides = λ s. p.facts s ++ p.made s;
  accepted = λ o s at fits all. fits;
}

-- the same part, of which nothing must fit: what otherwise must holds of each value
abbrev pub sure : {S W A : Type 0} (p : Part S W A) → ((s : S) → AllOf (p.facts s)) → Part S W A
sure p holds = record p {
  facts = λ s. [];
  round_trip = λ o s f es w fits made rest. p.round_trip o s f es w (holds s) made rest;
  packs = λ o s fits made. p.packs o s (holds s) made;
  besides = λ s. [];
  accepted = λ o s at more all. tt;
}

pub const-packs : (o : Order) (n v : ℕ) → Packs (plain (word o n v) ∷ []) n
const-packs o n v = packs-is (packs-more (const-written o n v) packs-none) (omega arith)

-- a constant of n bits, and the error if another number is read
abbrev pub const : {S B E : Type 0} (n v : ℕ) → nat_lt v (2 ^ n) ≡ true → E → Part S (Result B E) (Unit {0})
const n v fit err = record {
  read = λ o f. and_then (const_decoder o n v) (λ is. if is then f tt else pure (Err err));
  get = λ s. tt;
  write = λ o s. plain (word o n v) ∷ [];
  size = λ s. n;
  facts = λ s. [];
  made = λ s. [];
  round_trip = λ o s f es w fits made rest.
      literal-back es w o n v (λ is. if is then f tt else pure (Err err)) fit rest;
  packs = λ o s fits made. const-packs o n v;
  besides = λ s. [];
  accepted = λ o s at more all. tt;
}

-- ---- the laws of a format, in one piece each

module _ {A V : Type 0} {ok : A → V} (F : Format A V ok) where
  -- what was written is read back as it was, at any place, and only its bits are taken
  abbrev pub RoundTripLaw : Type 0
  RoundTripLaw =
      (o : Order) (value : A) (at from : ℕ) (more : List Bool) → Fits F value
      → let written = write_sequence (F.write o value) at in
      (F.read o).reads from (written ++ more) ≡ Done (length written) (Ok (ok value))

  -- a value has the number of bits that the format states
  abbrev pub LengthLaw : Type 0
  LengthLaw = (o : Order) (value : A) (at : ℕ) → Fits F value → length (write_sequence (F.write o value) at) ≡ F.size value

  pub round_trip_law : RoundTripLaw
  round_trip_law o value at from more fits = (F.round_trip o value fits).back at from more

  pub length_law : LengthLaw
  length_law o value at fits = (F.packs o value fits).size at

  -- the bits of a value, up to a whole byte
  unfoldable pub packed_bits : A → List Bool
  packed_bits a = write_sequence (F.write High a ++ align ∷ []) 0

  -- the same, as an equation for proofs: a search sees no part of the bits
  pub packed_told : (a : A) → write_sequence (F.write High a ++ align ∷ []) 0 ≡ packed_bits a
  unfolding packed_bits
  packed_told a = refl
