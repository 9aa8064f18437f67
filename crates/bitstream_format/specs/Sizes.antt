-- Parts of a stated size in bytes: a part that fills it, and a list that fills it. The size limits the reader: the part is read
-- over the bits of these bytes alone, and no bit after them is read. If the value does not fill them, the read returns the error
-- that the size names. The reader has then taken only these bytes.
use Rattle.std.proofs.Common.{◌≡◌, ◌∙◌, ℕ, zero, suc, take, drop, length-take-le, ◌+◌, ◌*◌, ◌<◌, ◌≤◌, ◌==◌, Bool, true, false, List, [], ◌∷◌, ◌++◌, length, length-append, Result, Ok, Err, refl, subst, sym, ap, append-nil, arith, le_refl}
use Rattle.std.specs.Prelude.{if◌then◌else◌, nat_le, flat_map, ◌&&◌, ◌≢◌}
use Rattle.std.specs.List.{All, AllByRecursion}
use Rattle.std.proofs.Math.Seq.{drop-append_seam, take-length}
use Rattle.std.proofs.lemmas.Bool.{eq-eqb, ne_eqb, leb-true, le-leb}
use Rattle.std.proofs.lemmas.List.Elements.{recursion_from_All}
use Rattle.bitstream_number.specs.Word.{bytes_of}
use Rattle.bitstream_number.proofs.ByteLemmas.{bits-bytes_of}
use Rattle.bitstream_count.specs.Codec.{Prefix, Incomplete, and_then, is_empty, word_prefix}
use Rattle.bitstream_stream.specs.Reading.ReadTable.{bytes_decoder, vec_decoder}
use Rattle.bitstream_stream.proofs.Reading.CodecLemmas.{word_prefix-some}
use Rattle.bitstream_stream.proofs.Reading.ReadsLemmas.{and_then_decides}
use Rattle.bitstream_io.specs.Callers.{Decoder, Encoder, Done, pure, Order, Error, bits, write_sequence}
use Rattle.bitstream_io.specs.Loop.{parts_size}
use Rattle.bitstream_io.proofs.SequenceLemmas.{write_sequence-append}
use Rattle.bitstream_io.proofs.CallerLemmas.{RoundTrip, Packs, IsWord}
use Rattle.bitstream_format.specs.Format.{Fits, Own, AllOf}
use Rattle.bitstream_format.specs.Lists.{packs_each}

-- ---- what n bytes are read as

-- a result that is returned once the bytes are taken; if `stored`, the call may allocate then
abbrev pub answered : {A : Type 0} → Bool → A → Decoder A
answered stored a = record (pure a) { allocates = λ _ bits. stored && is_empty bits }

-- n bytes; if they are stored, the read may allocate as they come
abbrev pub bytes_read : Bool → Order → ℕ → Decoder (List ℕ)
bytes_read true o n = vec_decoder o n
bytes_read false o n = bytes_decoder o n

-- n bytes, and what is made of their bits
abbrev pub limited : {A : Type 0} → Bool → ℕ → (List Bool → A) → Order → Decoder A
limited stored n make o = and_then (bytes_read stored o n) (λ xs. answered stored (make (bits o xs)))

-- a part that must fill `size` bits: `err` if it does not, or if it needs more; `other` makes an own error of the reader's
abbrev pub filled : {A E : Type 0} → ℕ → E → (Error → E) → Prefix (Result A E) → Result A E
filled size err other Incomplete = Err err
filled size err other (Done n (Ok (Ok a))) = if n == size then Ok a else Err err
filled size err other (Done n (Ok (Err x))) = Err x
filled size err other (Done n (Err x)) = Err (other x)

-- what the read of a part returns whose bits are these alone
abbrev pub only : {A E : Type 0} → Own E A → E → (Error → E) → Order → List Bool → Result A E
only F err other o w = filled (length w) err other ((F.read o).reads 0 w)

-- one more item, before the others
abbrev pub item_and : {A E : Type 0} → A → Result (List A) E → Result (List A) E
item_and x (Ok xs) = Ok (x ∷ xs)
item_and x (Err e) = Err e

-- an item, and the others after its bits
abbrev pub item_then : {A E : Type 0} → E → (Error → E) → Prefix (Result A E) → (ℕ → Result (List A) E) → Result (List A) E
item_then err other Incomplete rest = Err err
item_then err other (Done n (Ok (Ok x))) rest = item_and x (rest n)
item_then err other (Done n (Ok (Err y))) rest = Err y
item_then err other (Done n (Err y)) rest = Err (other y)

-- items up to the end of the bits, at most `most`; an item that needs more bits is `err`, and so is one that takes none
abbrev pub items_in : {A E : Type 0} → Decoder (Result A E) → E → (Error → E) → ℕ → List Bool → ℕ → Result (List A) E
items_in e err other p [] most = Ok []
items_in e err other p (b ∷ bs) zero = Err err
items_in e err other p (b ∷ bs) (suc most) =
    item_then err other (e.reads p (b ∷ bs)) (λ n. items_in e err other (p + n) (drop n (b ∷ bs)) most)

-- the items that fill these bits
abbrev pub all_items : {A E : Type 0} → Own E A → E → (Error → E) → Order → List Bool → Result (List A) E
all_items F err other o w = items_in (F.read o) err other 0 w (length w)

-- ---- laws

bytes-prefix : (stored : Bool) (o : Order) (n p : ℕ) (b : List Bool)
    → (bytes_read stored o n).reads p b ≡ word_prefix (8 * n) (λ v. Ok (bytes_of o n v)) b
unfolding bytes_decoder
bytes-prefix true o n p b = refl
bytes-prefix false o n p b = refl

bytes_of-prefix : (stored : Bool) (o : Order) (n p : ℕ) (w more : List Bool) → length w ≡ 8 * n
    → (bytes_read stored o n).reads p (w ++ more) ≡ Done (length w) (Ok (bytes_of o n w))
bytes_of-prefix stored o n p w more size =
    bytes-prefix stored o n p (w ++ more)
    ∙ word_prefix-some (8 * n) (λ v. Ok (bytes_of o n v)) w more size ∙ rw size refl

-- what writes n bytes is read back, if their bits are read as the value
pub limited-goes : {A : Type 0} (stored : Bool) (n : ℕ) (make : List Bool → A) (o : Order) (es : List Encoder) (a : A)
    → Packs es (8 * n) → ((at : ℕ) → make (write_sequence es at) ≡ a) → RoundTrip (limited stored n make o) es a
limited-goes stored n make o es a packs made = record {
  back = λ at p more.
      let w = write_sequence es at in
      let size : length w ≡ 8 * n = packs.size at in
      let answer = λ (xs : List ℕ). answered stored (make (bits o xs)) in
      let same : make (bits o (bytes_of o n w)) ≡ a = ap make (bits-bytes_of o n w size) ∙ made at in
      let both = and_then_decides (bytes_read stored o n) answer p (p + length w) w [] (bytes_of o n w) (Ok a)
      (λ rest. bytes_of-prefix stored o n p w rest size) refl (λ rest. rw same refl) more in
      subst (λ (v : List Bool). (limited stored n make o).reads p (v ++ more) ≡ Done (length v) (Ok a)) (append-nil w) both;
}

module _ {A E : Type 0} (F : Own E A) (err : E) (other : Error → E) (o : Order) where
  pub only-again : (a : A) → Fits F a → (at : ℕ) → only F err other o (write_sequence (F.write o a) at) ≡ Ok a
  only-again a fits at =
      let w = write_sequence (F.write o a) at in
      let found : (F.read o).reads 0 w ≡ Done (length w) (Ok (Ok a)) =
      subst (λ (v : List Bool). (F.read o).reads 0 v ≡ Done (length w) (Ok (Ok a))) (append-nil w)
      ((F.round_trip o a fits).back at 0 []) in
      rw (found, eq-eqb (length w) (length w) refl) refl

  -- one item that takes some bits, and the others
  items-step : (a : A) (p most : ℕ) (w rest : List Bool) → 0 < length w
      → (F.read o).reads p (w ++ rest) ≡ Done (length w) (Ok (Ok a))
      → items_in (F.read o) err other p (w ++ rest) (suc most)
      ≡ item_and a (items_in (F.read o) err other (p + length w) rest most)
  items-step a p most [] rest some found = absurd (omega arith)
  items-step a p most (b ∷ bs) rest some found =
      let behind : drop (length (b ∷ bs)) (b ∷ bs ++ rest) ≡ rest = drop-append_seam (b ∷ bs) rest in
      rw (found, behind) refl

  pub items-again : (xs : List A) → AllByRecursion (λ x. Fits F x) xs → AllByRecursion (λ x. 0 < F.size x) xs
      → (at p most : ℕ) → let w = write_sequence (flat_map (F.write o) xs) at in length w ≤ most
      → items_in (F.read o) err other p w most ≡ Ok xs
  items-again [] fit some at p most le = refl
  items-again (x ∷ xs) fit some at p zero le =
      let w = write_sequence (F.write o x) at in
      let size : length w ≡ F.size x = (F.packs o x fit.0).size at in
      let all = write_sequence-append (F.write o x) (flat_map (F.write o) xs) at in
      let both = length-append w (write_sequence (flat_map (F.write o) xs) (at + length w)) in
      let sum : length (write_sequence (F.write o x ++ flat_map (F.write o) xs) at)
      ≡ length w + length (write_sequence (flat_map (F.write o) xs) (at + length w)) = ap length all ∙ both in
      let positive = some.0 in
      absurd (omega arith)
  items-again (x ∷ xs) fit some at p (suc most) le =
      let w = write_sequence (F.write o x) at in
      let rest = write_sequence (flat_map (F.write o) xs) (at + length w) in
      let size : length w ≡ F.size x = (F.packs o x fit.0).size at in
      let positive : 0 < length w = subst (λ (k : ℕ). 0 < k) (sym size) some.0 in
      let all : write_sequence (F.write o x ++ flat_map (F.write o) xs) at ≡ w ++ rest =
      write_sequence-append (F.write o x) (flat_map (F.write o) xs) at in
      let sum : length (write_sequence (F.write o x ++ flat_map (F.write o) xs) at) ≡ length w + length rest =
      ap length all ∙ length-append w rest in
      let fewer : length rest ≤ most = omega arith in
      let first = (F.round_trip o x fit.0).back at p rest in
      let others = items-again xs fit.1 some.1 (at + length w) (p + length w) most fewer in
      rw (all, items-step x p most w rest positive first, others) refl

-- ---- formats

-- a part that fills n bytes
abbrev pub sized_part : {A E : Type 0} → Bool → ℕ → Own E A → E → (Error → E) → Own E A
sized_part stored n F err other = record {
  read = λ o. limited stored n (only F err other o) o;
  write = F.write;
  size = F.size;
  facts = λ a. (F.size a ≡ 8 * n) ∷ AllOf (F.facts a) ∷ [];
  round_trip = λ o a fits.
      limited-goes stored n (only F err other o) o (F.write o a) (Ok a)
      (subst (Packs (F.write o a)) fits.0 (F.packs o a fits.1)) (only-again F err other o a fits.1);
  packs = λ o a fits. F.packs o a fits.1;
  besides = λ a. (F.size a ≡ 8 * n) ∷ AllOf (F.facts a) ∷ [];
  accepted = λ o a at fits all. fits;
}

-- a part that fills n bytes, whose read does not allocate
abbrev pub sized : {A E : Type 0} → ℕ → Own E A → E → (Error → E) → Own E A
sized = sized_part false

-- the same, whose read may allocate
abbrev pub growing_sized : {A E : Type 0} → ℕ → Own E A → E → (Error → E) → Own E A
growing_sized = sized_part true

-- items one after another that fill n bytes; each must take at least one bit
abbrev pub fill : {A E : Type 0} → ℕ → Own E A → E → (Error → E) → Own E (List A)
fill n F err other = record {
  read = λ o. limited true n (all_items F err other o) o;
  write = λ o xs. flat_map (F.write o) xs;
  size = λ xs. parts_size F.size xs;
  facts = λ xs. (parts_size F.size xs ≡ 8 * n) ∷ All (λ x. Fits F x) xs ∷ All (λ x. 0 < F.size x) xs ∷ [];
  round_trip = λ o xs fits.
      limited-goes true n (all_items F err other o) o (flat_map (F.write o) xs) (Ok xs)
      (subst (Packs (flat_map (F.write o) xs)) fits.0 (packs_each F o xs fits.1.0))
      (λ at. items-again F err other o xs (recursion_from_All (λ x. Fits F x) xs fits.1.0)
      (recursion_from_All (λ x. 0 < F.size x) xs fits.1.1) at 0 (length (write_sequence (flat_map (F.write o) xs) at)) (le_refl _));
  packs = λ o xs fits. packs_each F o xs fits.1.0;
  besides = λ xs. (parts_size F.size xs ≡ 8 * n) ∷ All (λ x. Fits F x) xs ∷ All (λ x. 0 < F.size x) xs ∷ [];
  accepted = λ o xs at fits all. fits;
}

-- ---- a part of a fixed width fills a size of the same number of bits, and no other

module _ {A E : Type 0} (F : Own E A) (err : E) (other : Error → E) (o : Order) (n : ℕ) (g : List Bool → A)
    (is : IsWord (F.read o) n (λ w. Ok (Ok (g w)))) (w : List Bool) where
  pub word-fills : length w ≡ n → only F err other o w ≡ Ok (g w)
  word-fills size =
      let whole : take n w ≡ w = ap (λ (k : ℕ). take k w) (sym size) ∙ take-length w in
      rw (is.reads 0 w, le-leb n (length w) (omega arith), whole, eq-eqb n (length w) (sym size)) refl

  misfits-by : (enough : Bool) → nat_le n (length w) ≡ enough → length w ≢ n → only F err other o w ≡ Err err
  misfits-by true le size = rw (is.reads 0 w, le, ne_eqb n (length w) (λ e. size (sym e))) refl
  misfits-by false le size = rw (is.reads 0 w, le) refl

  pub word-misfits : length w ≢ n → only F err other o w ≡ Err err
  word-misfits size = misfits-by (nat_le n (length w)) refl size

-- ---- the size limits the reader

limits-by : {A : Type 0} (stored : Bool) (n : ℕ) (make : List Bool → A) (o : Order) (p : ℕ) (b : List Bool) (enough : Bool)
    → nat_le (8 * n) (length b) ≡ enough → (limited stored n make o).reads p b
    ≡ (if enough then Done (8 * n) (Ok (make (take (8 * n) b))) else Incomplete)
unfolding and_then
limits-by stored n make o p b true is =
    let long : length (take (8 * n) b) ≡ 8 * n = length-take-le (8 * n) b (leb-true (8 * n) (length b) is) in
    let no_more : 8 * n + 0 ≡ 8 * n = omega arith in
    rw (bytes-prefix stored o n p b, is, bits-bytes_of o n (take (8 * n) b) long, no_more) refl
limits-by stored n make o p b false is = rw (bytes-prefix stored o n p b, is) refl

-- If fewer than n bytes are left, the read is incomplete. Else it takes them alone, and returns what their bits are read as.
pub size-limits : {A : Type 0} (stored : Bool) (n : ℕ) (make : List Bool → A) (o : Order) (p : ℕ) (b : List Bool)
    → (limited stored n make o).reads p b
    ≡ (if nat_le (8 * n) (length b) then Done (8 * n) (Ok (make (take (8 * n) b))) else Incomplete)
size-limits stored n make o p b = limits-by stored n make o p b (nat_le (8 * n) (length b)) refl

module _ {A E : Type 0} (n : ℕ) (F : Own E A) (err : E) (other : Error → E) where
  -- a part of n bytes: with fewer the read is incomplete; else it takes them alone, and reads the part over their bits alone
  abbrev pub PartLimitLaw : Type 0
  PartLimitLaw =
      (o : Order) (p : ℕ) (b : List Bool) → ((sized n F err other).read o).reads p b
      ≡ (if nat_le (8 * n) (length b) then Done (8 * n) (Ok (only F err other o (take (8 * n) b))) else Incomplete)

  -- the same of a list that fills n bytes
  abbrev pub ListLimitLaw : Type 0
  ListLimitLaw =
      (o : Order) (p : ℕ) (b : List Bool) → ((fill n F err other).read o).reads p b
      ≡ (if nat_le (8 * n) (length b) then Done (8 * n) (Ok (all_items F err other o (take (8 * n) b))) else Incomplete)

  pub part_limit_law : PartLimitLaw
  part_limit_law o p b = size-limits false n (only F err other o) o p b

  pub list_limit_law : ListLimitLaw
  list_limit_law o p b = size-limits true n (all_items F err other o) o p b
