-- Arrays, lists that are counted or end at their last part, parts that may be missing, values that are made of other values,
-- and errors of another type.
use Rattle.std.proofs.Common.{◌≡◌, ℕ, ◌+◌, ◌*◌, ◌∙◌, ◌<◌, ◌≤◌, Bool, List, [], ◌∷◌, ◌++◌, length, Option, Some, None, Result, Ok, Err, refl, subst, ap, arith}
use Rattle.std.specs.Prelude.{flat_map, is_some}
use Rattle.std.specs.List.{All}
use Rattle.std.specs.Option.{ForSome}
use Rattle.std.proofs.lemmas.List.Elements.{All-weaker, All-nil, All-cons, All-head, All-tail}
use Rattle.bitstream_io.specs.Callers.{AllAccepted, Decoder, Encoder, and_then, write_sequence, pure, Order, items_decoder, list_item, vec_decoder, buffer, parts_decoder, part_then, optional_writes, optional_size}
use Rattle.bitstream_io.specs.Callers as call
use Rattle.bitstream_io.specs.Loop.{parts_size}
use Rattle.bitstream_io.specs.ReadBack.{IsReadAs}
use Rattle.bitstream_io.proofs.CallsBack.{items-read, parts-read, mapped-read, then_made-read}
use Rattle.bitstream_io.proofs.CallerLemmas.{RoundTrip, Packs, part-back, pure-back, optional-back, packs-parts, packs-optional, bytes-written, packs-is, accepted-first, accepted-second}
use Rattle.bitstream_format.specs.AtomLaws.{bytes-goes, one-packs}
use Rattle.bitstream_format.specs.Format.{Format, AllOf, Fits, Plain, Own, Part}
use Rattle.bitstream_format.specs.UpToLast.{EndsOnce, up_to_last_decoder}
use Rattle.bitstream_format.specs.UpToLastLaws.{up_to_last-back}

-- ---- laws

read_each : {A V : Type 0} {ok : A → V} (F : Format A V ok) (o : Order) (xs : List A) → All (λ x. Fits F x) xs
    → All (λ x. IsReadAs (F.write o x) (F.read o) (ok x)) xs
read_each {ok = ok} F o xs fit =
    All-weaker (λ x. Fits F x) (λ x. IsReadAs (F.write o x) (F.read o) (ok x)) (λ x h. (F.round_trip o x h).back) xs fit

pub packs_each : {A V : Type 0} {ok : A → V} (F : Format A V ok) (o : Order) (xs : List A) → All (λ x. Fits F x) xs
    → Packs (flat_map (F.write o) xs) (parts_size F.size xs)
packs_each F o xs fit =
    packs-parts (F.write o) F.size xs
    (All-weaker (λ x. Fits F x) (λ x. Packs (F.write o x) (F.size x)) (λ x h. F.packs o x h) xs fit)

pub accepted_each : {A V : Type 0} {ok : A → V} (F : Format A V ok) (o : Order) (xs : List A) (at : ℕ)
    → All (λ x. AllOf (F.besides x)) xs → AllAccepted (flat_map (F.write o) xs) at → All (λ x. Fits F x) xs
accepted_each F o [] at more all = All-nil (λ x. Fits F x)
accepted_each {A = A} F o (x ∷ xs) at more all =
    let Besides = λ (y : A). AllOf (F.besides y) in
    All-cons (λ y. Fits F y) x xs
    (F.accepted o x at (All-head Besides x xs more) (accepted-first (F.write o x) (flat_map (F.write o) xs) at all))
    (accepted_each F o xs (at + length (write_sequence (F.write o x) at)) (All-tail Besides x xs more)
    (accepted-second (F.write o x) (flat_map (F.write o) xs) at all))

pub items-goes : {A : Type 0} (F : Plain A) (o : Order) (n : ℕ) (xs : List A) → length xs ≡ n
    → All (λ x. Fits F x) xs → RoundTrip (items_decoder (F.read o) n) (flat_map (F.write o) xs) xs
items-goes F o n xs is fit =
    subst (λ (k : ℕ). RoundTrip (items_decoder (F.read o) k) (flat_map (F.write o) xs) xs) is
    (record { back = items-read (F.read o) (F.write o) xs (read_each F o xs fit) })

pub listed-goes : {A : Type 0} (F : Plain A) (o : Order) (n : ℕ) (xs : List A) → length xs ≡ n
    → All (λ x. Fits F x) xs → RoundTrip (items_decoder (list_item (F.read o)) n) (flat_map (F.write o) xs) xs
listed-goes F o n xs is fit =
    subst (λ (k : ℕ). RoundTrip (items_decoder (list_item (F.read o)) k) (flat_map (F.write o) xs) xs) is
    (record { back = items-read (list_item (F.read o)) (F.write o) xs (read_each F o xs fit) })

pub parts-goes : {A E : Type 0} (F : Own E A) (o : Order) (n : ℕ) (xs : List A) → length xs ≡ n
    → All (λ x. Fits F x) xs → RoundTrip (parts_decoder (F.read o) n) (flat_map (F.write o) xs) (Ok xs)
parts-goes F o n xs is fit =
    subst (λ (k : ℕ). RoundTrip (parts_decoder (F.read o) k) (flat_map (F.write o) xs) (Ok xs)) is
    (record { back = parts-read (F.read o) (F.write o) xs (read_each F o xs fit) })

pub up_to_last-goes : {A E : Type 0} (last : A → Bool) (F : Own E A) (o : Order) (xs : List A) → All (λ x. Fits F x) xs
    → EndsOnce last xs → length xs ≤ 4294967296
    → RoundTrip (up_to_last_decoder (F.read o) last) (flat_map (F.write o) xs) (Ok xs)
up_to_last-goes last F o xs fit once few = up_to_last-back (F.read o) (F.write o) last xs once few (read_each F o xs fit)

module _ {A B : Type 0} (o : Order) (there : Bool) (x : Option A) (es : List Encoder) where
  pub optional-round_trip : (F : Plain A) (f : Option A → Decoder B) (b : B) → is_some x ≡ there
      → ForSome x (λ a. Fits F a) → RoundTrip (f x) es b
      → RoundTrip (and_then (call.optional there (F.read o)) f) (optional_writes (F.write o) x ++ es) b
  optional-round_trip F f b is fit rest =
      subst (λ (c : Bool). RoundTrip (and_then (call.optional c (F.read o)) f) (optional_writes (F.write o) x ++ es) b) is
      (part-back (call.optional (is_some x) (F.read o)) f (optional_writes (F.write o) x) es x b
      (optional-back (F.read o) (F.write o) x (λ a e. (F.round_trip o a (fit a e)).back)) rest)

pub own_optional-read : {A E : Type 0} (F : Own E A) (o : Order) (x : Option A) → ForSome x (λ a. Fits F a)
    → IsReadAs (optional_writes (F.write o) x) (call.own_optional (is_some x) (F.read o)) (Ok x)
own_optional-read {E = E} F o None fit = (pure-back {A = Result _ E} (Ok None)).back
own_optional-read F o (Some a) fit =
    then_made-read (F.read o) (λ v. Some v) (F.write o a) a (F.round_trip o a (fit a refl)).back

pub own_optional-round_trip : {A B E : Type 0} (F : Own E A) (o : Order) (there : Bool) (x : Option A)
    (es : List Encoder) (f : Option A → Decoder (Result B E)) (b : Result B E) → is_some x ≡ there
    → ForSome x (λ a. Fits F a) → RoundTrip (f x) es b
    → RoundTrip (and_then (call.own_optional there (F.read o)) (part_then f)) (optional_writes (F.write o) x ++ es) b
own_optional-round_trip F o there x es f b is fit rest =
    subst (λ (c : Bool). RoundTrip (and_then (call.own_optional c (F.read o)) (part_then f))
    (optional_writes (F.write o) x ++ es) b) is
    (part-back (call.own_optional (is_some x) (F.read o)) (part_then f) (optional_writes (F.write o) x) es (Ok x) b
    (own_optional-read F o x fit) rest)

pub optional-packs : {A V : Type 0} {ok : A → V} (F : Format A V ok) (o : Order) (x : Option A)
    → ForSome x (λ a. Fits F a) → Packs (optional_writes (F.write o) x) (optional_size F.size x)
optional-packs F o x fit = packs-optional (F.write o) F.size x (λ a e. F.packs o a (fit a e))

pub mapped-goes : {A V B : Type 0} (F : Plain B) (of : B → V) (to : A → B) (v : V) (o : Order) (a : A) → of (to a) ≡ v
    → Fits F (to a) → RoundTrip (and_then (F.read o) (λ b. pure (of b))) (F.write o (to a)) v
mapped-goes F of to v o a again fit =
    subst (λ (x : _). RoundTrip (and_then (F.read o) (λ b. pure (of b))) (F.write o (to a)) x) again
    (record { back = mapped-read of (F.write o (to a)) (F.read o) (to a) (F.round_trip o (to a) fit).back })

-- ---- formats

-- a value that is made of another one, and gives it back: a case of an enum by its number
abbrev pub mapped : {A V B : Type 0} {ok : A → V} → (F : Plain B) → (of : B → V) → (to : A → B)
    → ((a : A) → of (to a) ≡ ok a) → ((a : A) → Fits F (to a)) → Format A V ok
mapped {ok = ok} F of to again fit = record {
  read = λ o. and_then (F.read o) (λ b. pure (of b));
  write = λ o a. F.write o (to a);
  size = λ a. F.size (to a);
  facts = λ a. [];
  round_trip = λ o a fits. mapped-goes F of to (ok a) o a (again a) (fit a);
  packs = λ o a fits. F.packs o (to a) (fit a);
  besides = λ a. [];
  accepted = λ o a at more all. tt;
}

-- the same result, with an error of another type
abbrev pub error_of : {A D E : Type 0} → (D → E) → Result A D → Result A E
error_of make (Ok a) = Ok a
error_of make (Err x) = Err (make x)

pub error-goes : {A D E : Type 0} (F : Own D A) (make : D → E) (o : Order) (a : A) → Fits F a
    → RoundTrip (and_then (F.read o) (λ answer. pure (error_of make answer))) (F.write o a) (Ok a)
error-goes F make o a fits =
    record { back = mapped-read (error_of make) (F.write o a) (F.read o) (Ok a) (F.round_trip o a fits).back }

-- a format whose errors become errors of another type
abbrev pub with_error : {A D E : Type 0} → (D → E) → Own D A → Own E A
with_error make F = record {
  read = λ o. and_then (F.read o) (λ answer. pure (error_of make answer));
  write = F.write;
  size = F.size;
  facts = F.facts;
  round_trip = λ o a fits. error-goes F make o a fits;
  packs = F.packs;
  besides = F.besides;
  accepted = F.accepted;
}

pub own-goes : {A E : Type 0} (F : Plain A) (o : Order) (a : A) → Fits F a
    → RoundTrip {A = Result A E} (and_then (F.read o) (λ value. pure (Ok value))) (F.write o a) (Ok a)
own-goes F o a fits =
    record { back = mapped-read (λ value. Ok value) (F.write o a) (F.read o) a (F.round_trip o a fits).back }

-- the same format as one with errors of its own, of which it returns none
abbrev pub own : {A E : Type 0} → Plain A → Own E A
own F = record {
  read = λ o. and_then (F.read o) (λ value. pure (Ok value));
  write = F.write;
  size = F.size;
  facts = F.facts;
  round_trip = λ o a fits. own-goes F o a fits;
  packs = F.packs;
  besides = F.besides;
  accepted = F.accepted;
}

-- n items
abbrev pub array : {A : Type 0} → ℕ → Plain A → Plain (List A)
array n F = record {
  read = λ o. items_decoder (F.read o) n;
  write = λ o xs. flat_map (F.write o) xs;
  size = λ xs. parts_size F.size xs;
  facts = λ xs. (length xs ≡ n) ∷ All (λ x. Fits F x) xs ∷ [];
  round_trip = λ o xs fits. items-goes F o n xs fits.0 fits.1;
  packs = λ o xs fits. packs_each F o xs fits.1;
  besides = λ xs. (length xs ≡ n) ∷ All (λ x. Fits F x) xs ∷ [];
  accepted = λ o xs at fits all. fits;
}

pub parts_size-even : {A : Type 0} (size : A → ℕ) (w : ℕ) → ((a : A) → size a ≡ w) → (xs : List A)
    → parts_size size xs ≡ length xs * w
parts_size-even size w same [] = omega arith
parts_size-even size w same (x ∷ xs) =
    let first = same x in
    let others = parts_size-even size w same xs in
    omega (arith, first, others)

-- n items of w bits each
abbrev pub even_array : {A : Type 0} (n w : ℕ) (F : Plain A) → ((a : A) → F.size a ≡ w) → Plain (List A)
even_array n w F same = record (array n F) {
  size = λ xs. n * w;
  packs = λ o xs fits.
      packs-is (packs_each F o xs fits.1) (parts_size-even F.size w same xs ∙ ap (λ (k : ℕ). k * w) fits.0);
}

-- parts up to the first one that is the last, which is kept
abbrev pub up_to_last : {A E : Type 0} → (A → Bool) → Own E A → Own E (List A)
up_to_last last F = record {
  read = λ o. up_to_last_decoder (F.read o) last;
  write = λ o xs. flat_map (F.write o) xs;
  size = λ xs. parts_size F.size xs;
  facts = λ xs. All (λ x. Fits F x) xs ∷ EndsOnce last xs ∷ (length xs ≤ 4294967296) ∷ [];
  round_trip = λ o xs fits. up_to_last-goes last F o xs fits.0 fits.1.0 fits.1.1;
  packs = λ o xs fits. packs_each F o xs fits.0;
  besides = λ xs. All (λ x. Fits F x) xs ∷ EndsOnce last xs ∷ (length xs ≤ 4294967296) ∷ [];
  accepted = λ o xs at fits all. fits;
}

-- ---- parts

-- items, whose number a part before gives; each is stored once it is read, which may allocate
abbrev pub list : {S W A : Type 0} → ℕ → Plain A → (S → List A) → Part S W (List A)
list n F get = record {
  read = λ o f. and_then (items_decoder (list_item (F.read o)) n) f;
  get = get;
  write = λ o s. flat_map (F.write o) (get s);
  size = λ s. parts_size F.size (get s);
  facts = λ s. All (λ x. Fits F x) (get s) ∷ [];
  made = λ s. (length (get s) ≡ n) ∷ [];
  round_trip = λ o s f es w fits is rest.
      part-back (items_decoder (list_item (F.read o)) n) f (flat_map (F.write o) (get s)) es (get s) w
      (listed-goes F o n (get s) is fits).back rest;
  packs = λ o s fits is. packs_each F o (get s) fits;
  besides = λ s. All (λ x. AllOf (F.besides x)) (get s) ∷ [];
  accepted = λ o s at more all. accepted_each F o (get s) at more all;
}

-- the same of items with errors of their own
abbrev pub own_list : {S B A E : Type 0} → ℕ → Own E A → (S → List A) → Part S (Result B E) (List A)
own_list n F get = record {
  read = λ o f. and_then (parts_decoder (F.read o) n) (part_then f);
  get = get;
  write = λ o s. flat_map (F.write o) (get s);
  size = λ s. parts_size F.size (get s);
  facts = λ s. All (λ x. Fits F x) (get s) ∷ [];
  made = λ s. (length (get s) ≡ n) ∷ [];
  round_trip = λ o s f es w fits is rest.
      part-back (parts_decoder (F.read o) n) (part_then f) (flat_map (F.write o) (get s)) es (Ok (get s)) w
      (parts-goes F o n (get s) is fits).back rest;
  packs = λ o s fits is. packs_each F o (get s) fits;
  besides = λ s. All (λ x. AllOf (F.besides x)) (get s) ∷ [];
  accepted = λ o s at more all. accepted_each F o (get s) at more all;
}

-- such items of w bits each
abbrev pub even_list : {S W A : Type 0} (n w : ℕ) (F : Plain A) → ((a : A) → F.size a ≡ w) → (S → List A) → Part S W (List A)
even_list n w F same get = record (list n F get) {
  size = λ s. length (get s) * w;
  packs = λ o s fits is. packs-is (packs_each F o (get s) fits) (parts_size-even F.size w same (get s));
}

-- the same of items with errors of their own
abbrev pub own_even_list : {S B A E : Type 0} (n w : ℕ) (F : Own E A) → ((a : A) → F.size a ≡ w) → (S → List A)
    → Part S (Result B E) (List A)
own_even_list n w F same get = record (own_list n F get) {
  size = λ s. length (get s) * w;
  packs = λ o s fits is. packs-is (packs_each F o (get s) fits) (parts_size-even F.size w same (get s));
}

-- bytes, whose number a part before gives; the read may allocate as they come
abbrev pub byte_list : {S W : Type 0} → ℕ → (S → List ℕ) → Part S W (List ℕ)
byte_list n get = record {
  read = λ o f. and_then (vec_decoder o n) f;
  get = get;
  write = λ o s. buffer o (get s) ∷ [];
  size = λ s. 8 * n;
  facts = λ s. All (λ b. b < 256) (get s) ∷ [];
  made = λ s. (length (get s) ≡ n) ∷ [];
  round_trip = λ o s f es w fits is rest.
      part-back (vec_decoder o n) f (buffer o (get s) ∷ []) es (get s) w (bytes-goes o n (get s) is fits).back rest;
  packs = λ o s fits is. one-packs (bytes-written o n (get s) is);
  besides = λ s. All (λ b. b < 256) (get s) ∷ [];
  accepted = λ o s at fits all. fits;
}

-- a part that is there if a flag before says so
abbrev pub optional : {S W A : Type 0} → Bool → Plain A → (S → Option A) → Part S W (Option A)
optional there F get = record {
  read = λ o f. and_then (call.optional there (F.read o)) f;
  get = get;
  write = λ o s. optional_writes (F.write o) (get s);
  size = λ s. optional_size F.size (get s);
  facts = λ s. ForSome (get s) (λ a. Fits F a) ∷ [];
  made = λ s. (is_some (get s) ≡ there) ∷ [];
  round_trip = λ o s f es w fits is rest. optional-round_trip o there (get s) es F f w is fits rest;
  packs = λ o s fits is. optional-packs F o (get s) fits;
  besides = λ s. ForSome (get s) (λ a. Fits F a) ∷ [];
  accepted = λ o s at fits all. fits;
}

-- the same of a part with errors of its own
abbrev pub own_optional : {S B A E : Type 0} → Bool → Own E A → (S → Option A) → Part S (Result B E) (Option A)
own_optional there F get = record {
  read = λ o f. and_then (call.own_optional there (F.read o)) (part_then f);
  get = get;
  write = λ o s. optional_writes (F.write o) (get s);
  size = λ s. optional_size F.size (get s);
  facts = λ s. ForSome (get s) (λ a. Fits F a) ∷ [];
  made = λ s. (is_some (get s) ≡ there) ∷ [];
  round_trip = λ o s f es w fits is rest. own_optional-round_trip F o there (get s) es f w is fits rest;
  packs = λ o s fits is. optional-packs F o (get s) fits;
  besides = λ s. ForSome (get s) (λ a. Fits F a) ∷ [];
  accepted = λ o s at fits all. fits;
}
