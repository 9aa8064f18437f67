-- What is written is read back, call by call: for each call of the tables but an alignment, which looks at its place.
-- A caller's proof is `search (calls_round_trip, FACTS)`, where the facts say that the values fit.
use Rattle.std.proofs.Common.{◌≡◌, ◌⊎◌, inl, ℕ, zero, suc, ℤ, pos, ◌+◌, ◌-◌, ◌^◌, ◌<◌, ◌≤◌, ◌==◌, Bool, true, false, List, [], ◌∷◌, ◌++◌, length, replicate, Option, Some, Result, Ok, refl, sym, ap, ◌∙◌, subst, append-nil, append_assoc, length-append, lt_of_le_of_lt, arith}
use Rattle.std.specs.Prelude.{IfSome, nat_le, nat_lt}
use Rattle.std.specs.List.{All, AllByRecursion, flat_map}
use Rattle.std.proofs.Math.Nat.{mod-eq_of_lt}
use Rattle.std.proofs.lemmas.Bool.{lt-ltb, eq-eqb, ne_eqb}
use Rattle.std.proofs.lemmas.Bool.Decides.{nat_tests}
use Rattle.std.proofs.lemmas.List.Concat.{flat_map-append}
use Rattle.std.proofs.lemmas.List.Elements.{recursion_from_All}
use Rattle.bitstream_number.specs.Word.{Order, FitsSignedBits, word, number, signed_word, bits, zig, count_width}
use Rattle.bitstream_number.proofs.WordLemmas.{length-word, number-word, count_fits}
use Rattle.bitstream_count.specs.Codec.{Decoder, Encoder, and_then, pure, stores}
use Rattle.bitstream_count.specs.Vbr.{vbr_word}
use Rattle.bitstream_count.specs.Unary.{unary}
use Rattle.bitstream_stream.specs.Reading.ReadTable.{bit_decoder, unsigned_decoder, signed_decoder, const_decoder, unary_decoder, count_decoder, groups_decoder, vbr_decoder, any_vbr_decoder, signed_groups_decoder, signed_vbr_decoder, any_signed_vbr_decoder, bytes_decoder, vec_decoder, skip_decoder}
use Rattle.bitstream_stream.specs.Sequence.{write_sequence}
use Rattle.bitstream_stream.specs.Writing.WriteTable.{plain, bit, unsigned, signed, unary_word, count, vbr, signed_vbr, buffer, zeros}
use Rattle.bitstream_stream.proofs.Reading.ReadsLemmas.{and_then_decides}
use Rattle.bitstream_stream.proofs.Writing.WriteLemmas.{unsigned-const, unsigned-fits, signed-accepts}
use Rattle.bitstream_value.specs.Array.{items_decoder}
use Rattle.bitstream_value.specs.Boolean.{truth_decoder, truth}
use Rattle.bitstream_value.specs.Checked.{checked_decoder, signed_checked_decoder}
use Rattle.bitstream_value.specs.Grows.{parts_decoder}
use Rattle.bitstream_value.specs.NonZero.{non_zero_decoder, non_zero, non_zero_vbr_decoder, if_any, option_decoder, option_vbr_decoder}
use Rattle.bitstream_value.specs.Own.{part_then}
use Rattle.bitstream_value.specs.LimitedUnary.{limited_unary, limited_tree}
use Rattle.bitstream_value.specs.Tree.{Tree, IsPath, first_path, path_decoder, bit_by_bit}
use Rattle.bitstream_value.proofs.BackLemmas.{RoundTrip, round_trip}
use Rattle.bitstream_value.proofs.LimitedLemmas.{limited-path}
use Rattle.bitstream_value.proofs.TreeLemmas.{path-reads, word_back}
use Rattle.bitstream_io.specs.ReadBack.{IsReadAs, value_in}
use Rattle.bitstream_io.proofs.ReadBackLemmas.{Found, word-found, bit-found, unsigned-found, signed-found, unary-found, groups-found, signed_groups-found, bytes-are, bytes-found, skip-found}
use Rattle.bitstream_io.proofs.SequenceLemmas.{write_sequence-append}

-- ---- calls one after another

-- one call, whose encoding is found everywhere
one-read : {A : Type 0} {e : Decoder A} {a : A} (x : Encoder) (w : List Bool) → ((len : ℕ) → x len ≡ Ok w)
    → ((p : ℕ) → Found e p w a)
    → IsReadAs (x ∷ []) e a
one-read x w writes found len p more = rw (writes len, append-nil w) ((found p).takes more)

-- calls, and then others, read by one read and then another
pub then-read : {A B : Type 0} (e : Decoder A) (f : A → Decoder B) (es fs : List Encoder) (a : A) (b : B)
    → IsReadAs es e a → IsReadAs fs (f a) b → IsReadAs (es ++ fs) (and_then e f) b
then-read e f es fs a b h k len p more =
    let u = write_sequence es len in
    let v = write_sequence fs (len + length u) in
    let second = k (len + length u) (p + length u) in
    rw (write_sequence-append es fs len) (and_then_decides e f p (p + length u) u v a (Ok b) (h len p) refl second more)

-- ---- the calls

pub bit-read : (b : Bool) → IsReadAs (bit b ∷ []) bit_decoder b
bit-read b = one-read (bit b) (b ∷ []) (λ len. refl) (bit-found b)

pub unsigned-read : (o : Order) (size n v : ℕ) → n ≤ size → (v < 2 ^ n) ⊎ (n ≡ 0)
    → IsReadAs (unsigned o size n v ∷ []) (unsigned_decoder o size n) (value_in n v)
unsigned-read o size n v within fits =
    let w = word o n v in
    one-read (unsigned o size n v) w (λ len. unsigned-const o size n v len within fits)
    (λ p. unsigned-found o size n v 0 p w (unsigned-const o size n v 0 within fits))

pub signed-read : (o : Order) (size n : ℕ) (x : ℤ) → 0 < n → n ≤ size → FitsSignedBits n x
    → IsReadAs (signed o size n x ∷ []) (signed_decoder o size n) x
signed-read o size n x some within fits =
    let w = signed_word o n x in
    one-read (signed o size n x) w (λ len. signed-accepts o size n x len some (within, fits))
    (λ p. signed-found o size n x 0 p w (signed-accepts o size n x 0 some (within, fits)))

pub const-read : (o : Order) (n v : ℕ) → v < 2 ^ n → IsReadAs (plain (word o n v) ∷ []) (const_decoder o n v) true
unfolding const_decoder
const-read o n v small =
    let w = word o n v in
    let value : (number o w == v) ≡ true = eq-eqb (number o w) v (number-word o n v ∙ mod-eq_of_lt small) in
    one-read (plain w) w (λ len. refl)
    (λ p. word-found (const_decoder o n v) n p (λ u. number o u == v) w true (λ _. refl) (length-word o n v) value)

pub unary-read : (stop : Bool) (k : ℕ) → k < 2 ^ 32 → IsReadAs (unary_word stop k ∷ []) (unary_decoder stop) k
unary-read stop k small = one-read (unary_word stop k) (unary stop k) (λ len. refl) (λ p. unary-found stop k p small)

pub count-read : (o : Order) (max v : ℕ) → v ≤ max → IsReadAs (count o max v ∷ []) (count_decoder o max) v
unfolding count_decoder
count-read o max v le =
    let n = count_width max in
    let w = word o n v in
    let small : v < 2 ^ n = lt_of_le_of_lt le (count_fits max) in
    let value : number o w ≡ v = number-word o n v ∙ mod-eq_of_lt small in
    one-read (count o max v) w (λ len. refl)
    (λ p. word-found (count_decoder o max) n p (number o) w v (λ _. refl) (length-word o n v) value)

pub bytes-read : (o : Order) (bytes : List ℕ) → All (λ b. b < 256) bytes
    → IsReadAs (buffer o bytes ∷ []) (bytes_decoder o (length bytes)) bytes
bytes-read o bytes fit =
    one-read (buffer o bytes) (bits o bytes) (λ len. refl)
    (λ p. bytes-found o bytes p (bytes-are bytes (recursion_from_All (λ b. b < 256) bytes fit)))

pub skip-read : (n : ℕ) → IsReadAs (zeros n ∷ []) (skip_decoder n) tt
skip-read n = one-read (zeros n) (replicate n false) (λ len. refl) (skip-found n)

pub groups-read : (strict : Bool) (o : Order) (field size limit v : ℕ) → 2 ≤ field → 0 < size → limit ≤ 2 ^ size
    → v < limit
    → IsReadAs (vbr o field v ∷ []) (groups_decoder strict o field size limit) v
groups-read strict o field size limit v wide some most small =
    one-read (vbr o field v) (vbr_word o field v) (λ len. refl)
    (λ p. groups-found strict o field size limit v p wide some most small)

pub signed_groups-read : (strict : Bool) (o : Order) (field size : ℕ) (x : ℤ) → 2 ≤ field → 0 < size
    → FitsSignedBits size x
    → IsReadAs (signed_vbr o field x ∷ []) (signed_groups_decoder strict o field size) x
signed_groups-read strict o field size x wide some fits =
    one-read (signed_vbr o field x) (vbr_word o field (zig x)) (λ len. refl)
    (λ p. signed_groups-found strict o field size x p wide some fits)

-- ---- the types of values

-- a number that fits is what its bits encode
pub value_in-fits : (n v : ℕ) → v < 2 ^ n → value_in n v ≡ v
value_in-fits zero v fits = omega arith
value_in-fits (suc n) v fits = rw (ne_eqb (suc n) 0 (λ e. omega arith)) refl

-- a read whose result is made another value
pub mapped-read : {A B : Type 0} (make : A → B) (es : List Encoder) (e : Decoder A) (a : A) → IsReadAs es e a
    → IsReadAs es (and_then e (λ v. pure (make v))) (make a)
mapped-read make es e a h =
    subst (λ (ws : List Encoder). IsReadAs ws (and_then e (λ v. pure (make v))) (make a)) (append-nil es)
    (then-read e (λ v. pure (make v)) es [] a (make a) h (λ len p more. refl))

pub truth-read : (b : Bool) → IsReadAs (truth 1 b ∷ []) (truth_decoder 1) b
unfolding truth truth_decoder
truth-read b = bit-read b

module _ {A : Type 0} (after : ℕ → A) (o : Order) where
  pub non_zero-read : (size n v : ℕ) → n < size → (v - 1 < 2 ^ n) ⊎ (n ≡ 0)
      → IsReadAs (non_zero o size n v ∷ []) (non_zero_decoder after o size n) (after (value_in n (v - 1)))
  unfolding non_zero non_zero_decoder
  non_zero-read size n v less fits =
      let base = unsigned-read o size n (v - 1) (omega arith) fits in
      rw (lt-ltb n size less)
      (mapped-read after (unsigned o size n (v - 1) ∷ []) (unsigned_decoder o size n) (value_in n (v - 1)) base)

  pub option-read : (size n v : ℕ) → n ≤ size → (v < 2 ^ n) ⊎ (n ≡ 0)
      → IsReadAs (unsigned o size n v ∷ []) (option_decoder after o size n) (if_any after (value_in n v))
  unfolding option_decoder
  option-read size n v within fits =
      mapped-read (if_any after) (unsigned o size n v ∷ []) (unsigned_decoder o size n) (value_in n v)
      (unsigned-read o size n v within fits)

  pub non_zero_vbr-read : (field size v : ℕ) → 2 ≤ field → 0 < size → v - 1 < 2 ^ size - 1
      → IsReadAs (vbr o field (v - 1) ∷ []) (non_zero_vbr_decoder after o field size) (after (v - 1))
  unfolding non_zero_vbr_decoder
  non_zero_vbr-read field size v wide some fits =
      mapped-read after (vbr o field (v - 1) ∷ []) (vbr_decoder o field size (2 ^ size - 1)) (v - 1)
      (groups-read true o field size (2 ^ size - 1) (v - 1) wide some (omega arith) fits)

  pub option_vbr-read : (field size v : ℕ) → 2 ≤ field → 0 < size → v < 2 ^ size
      → IsReadAs (vbr o field v ∷ []) (option_vbr_decoder after o field size) (if_any after v)
  unfolding option_vbr_decoder
  option_vbr-read field size v wide some fits =
      mapped-read (if_any after) (vbr o field v ∷ []) (vbr_decoder o field size (2 ^ size)) v
      (groups-read true o field size (2 ^ size) v wide some (omega arith) fits)

module _ {C : Type 0} (count : C) (o : Order) where
  pub checked-read : (size n v : ℕ) → n ≤ size → v < 2 ^ n
      → IsReadAs (plain (word o n v) ∷ []) (checked_decoder count o size n) (count, pos v)
  unfolding checked_decoder
  checked-read size n v within fits =
      let w = word o n v in
      let found = λ (p : ℕ). unsigned-found o size n v 0 p w (unsigned-fits o size n v 0 within fits) in
      let base = one-read (plain w) w (λ len. refl) found in
      subst (λ (k : ℕ). IsReadAs (plain w ∷ []) (checked_decoder count o size n) (count, pos k)) (value_in-fits n v fits)
      (mapped-read (λ (k : ℕ). (count, pos k)) (plain w ∷ []) (unsigned_decoder o size n) (value_in n v) base)

  pub signed_checked-read : (size n : ℕ) (x : ℤ) → 0 < n → n ≤ size → FitsSignedBits n x
      → IsReadAs (plain (signed_word o n x) ∷ []) (signed_checked_decoder count o size n) (count, x)
  unfolding signed_checked_decoder
  signed_checked-read size n x some within fits =
      let w = signed_word o n x in
      let found = λ (p : ℕ). signed-found o size n x 0 p w (signed-accepts o size n x 0 some (within, fits)) in
      mapped-read (λ (y : ℤ). (count, y)) (plain w ∷ []) (signed_decoder o size n) x
      (one-read (plain w) w (λ len. refl) found)

-- ---- items, parts, and paths

-- items one after the other, of which one more is read after those before it; `ok` is what they are read as
module _ {A B : Type 0} (writes : A → List Encoder) (decoder : ℕ → Decoder B) (ok : List A → B) (IsOne : A → Type 0) where
  abbrev AreRead : List A → Type 0
  AreRead xs = IsReadAs (flat_map writes xs) (decoder (length xs)) (ok xs)

  module _ (one : (xs : List A) (y : A) → AreRead xs → IsOne y
      → IsReadAs (flat_map writes xs ++ writes y) (decoder (suc (length xs))) (ok (xs ++ y ∷ []))) where
    item-behind : (xs : List A) (y : A) → AreRead xs → IsOne y → AreRead (xs ++ y ∷ [])
    item-behind xs y h is =
        let size : suc (length xs) ≡ length (xs ++ y ∷ []) = omega (arith, length-append xs (y ∷ [])) in
        let words : flat_map writes xs ++ writes y ≡ flat_map writes (xs ++ y ∷ []) =
        ap (λ (l : List Encoder). flat_map writes xs ++ l) (sym (append-nil (writes y)))
        ∙ sym (flat_map-append writes xs (y ∷ [])) in
        subst (λ (n : ℕ). IsReadAs (flat_map writes (xs ++ y ∷ [])) (decoder n) (ok (xs ++ y ∷ []))) size
        (subst (λ (l : List Encoder). IsReadAs l (decoder (suc (length xs))) (ok (xs ++ y ∷ []))) words (one xs y h is))

    items-behind : (xs ys : List A) → AreRead xs → AllByRecursion IsOne ys → AreRead (xs ++ ys)
    items-behind xs [] h all = subst AreRead (sym (append-nil xs)) h
    items-behind xs (y ∷ ys) h all =
        subst AreRead (append_assoc xs (y ∷ []) ys) (items-behind (xs ++ y ∷ []) ys (item-behind xs y h all.0) all.1)

pub items-read : {A : Type 0} (e : Decoder A) (writes : A → List Encoder) (xs : List A)
    → All (λ x. IsReadAs (writes x) e x) xs → IsReadAs (flat_map writes xs) (items_decoder e (length xs)) xs
unfolding items_decoder
items-read {A = A} e writes xs all =
    let one = λ (ys : List A) (y : A) (h : AreRead writes (items_decoder e) (λ zs. zs) (λ x. IsReadAs (writes x) e x) ys)
    (is : IsReadAs (writes y) e y). then-read (items_decoder e (length ys))
    (λ items. and_then e (λ item. pure (items ++ item ∷ []))) (flat_map writes ys) (writes y) ys (ys ++ y ∷ []) h
    (mapped-read (λ item. ys ++ item ∷ []) (writes y) e y is) in
    items-behind writes (items_decoder e) (λ zs. zs) (λ x. IsReadAs (writes x) e x) one [] xs (λ len p more. refl)
    (recursion_from_All (λ x. IsReadAs (writes x) e x) xs all)

-- a part with errors of its own, and what is made of it
pub then_made-read : {A B E : Type 0} (e : Decoder (Result A E)) (make : A → B) (ws : List Encoder) (a : A)
    → IsReadAs ws e (Ok a) → IsReadAs ws (and_then e (part_then (λ v. pure (Ok (make v))))) (Ok (make a))
then_made-read {B = B} {E = E} e make ws a part =
    let behind = part_then {E = E} (λ v. pure (Ok (make v))) in
    subst (λ (es : List Encoder). IsReadAs es (and_then e behind) (Ok (make a))) (append-nil ws)
    (then-read e behind ws [] (Ok a) (Ok (make a)) part (λ len p more. refl))

-- the same, stored
stored-read : {A B E : Type 0} (e : Decoder (Result A E)) (make : A → B) (ws : List Encoder) (a : A)
    → IsReadAs ws e (Ok a) → IsReadAs ws (and_then e (part_then (λ v. stores (Ok (make v))))) (Ok (make a))
stored-read {B = B} {E = E} e make ws a part =
    let behind = part_then {E = E} (λ v. stores (Ok (make v))) in
    subst (λ (es : List Encoder). IsReadAs es (and_then e behind) (Ok (make a))) (append-nil ws)
    (then-read e behind ws [] (Ok a) (Ok (make a)) part (λ len p more. refl))

pub parts-read : {A E : Type 0} (e : Decoder (Result A E)) (writes : A → List Encoder) (xs : List A)
    → All (λ x. IsReadAs (writes x) e (Ok x)) xs → IsReadAs (flat_map writes xs) (parts_decoder e (length xs)) (Ok xs)
unfolding parts_decoder
parts-read {A = A} {E = E} e writes xs all =
    let ok : List A → Result (List A) E = λ zs. Ok zs in
    let one = λ (ys : List A) (y : A) (h : AreRead writes (parts_decoder e) ok (λ x. IsReadAs (writes x) e (Ok x)) ys)
    (is : IsReadAs (writes y) e (Ok y)). then-read (parts_decoder e (length ys))
    (part_then (λ items. and_then e (part_then (λ item. stores (Ok (items ++ item ∷ [])))))) (flat_map writes ys) (writes y)
    (Ok ys) (Ok (ys ++ y ∷ [])) h (stored-read e (λ item. ys ++ item ∷ []) (writes y) y is) in
    items-behind writes (parts_decoder e) ok (λ x. IsReadAs (writes x) e (Ok x)) one [] xs (λ len p more. refl)
    (recursion_from_All (λ x. IsReadAs (writes x) e (Ok x)) xs all)

-- bits that are written one by one
bits-written : (w : List Bool) (len : ℕ) → write_sequence (bit_by_bit w) len ≡ w
bits-written [] len = refl
bits-written (b ∷ w) len = ap (λ (l : List Bool). b ∷ l) (bits-written w (len + 1))

pub path-read : {S : Type 0} (t : Tree S) (w : List Bool) (s : S) → IsPath t w s
    → IsReadAs (bit_by_bit w) (path_decoder t) s
path-read t w s path len p more = rw (bits-written w len) (path-reads t w s p more path)

pub limited-read : (stop : Bool) (most : ℕ) (v : Option ℕ) → IfSome v (λ k. k < most)
    → IsReadAs (bit_by_bit (limited_unary stop most v)) (path_decoder (limited_tree stop 0 most)) v
limited-read stop most v fits =
    path-read (limited_tree stop 0 most) (limited_unary stop most v) v (limited-path stop most v fits)

pub symbol-read : {S : Type 0} (same : S → S → Bool) (t : Tree S) (s : S) (w : List Bool)
    → first_path same t s ≡ Some w → (x : S) × (same x s ≡ true) × IsReadAs (bit_by_bit w) (path_decoder t) x
symbol-read same t s w found =
    let k = word_back same s t w found in
    (k.0, k.1, λ len p more. rw (bits-written w len) (k.2 p more))

-- ---- reads in a row

module _ {B : Type 0} (es : List Encoder) (b : B) where
  next-back : {A : Type 0} (e : Decoder A) (x : Encoder) (a : A) (f : A → Decoder B) → IsReadAs (x ∷ []) e a
      → RoundTrip (f a) es b → RoundTrip (and_then e f) (x ∷ es) b
  next-back e x a f h k = record { back = then-read e f (x ∷ []) es a b h k.back }

  pub unary-back : (stop : Bool) (k : ℕ) (f : ℕ → Decoder B) → k < 2 ^ 32 → RoundTrip (f k) es b
      → RoundTrip (and_then (unary_decoder stop) f) (unary_word stop k ∷ es) b
  unary-back stop k f small behind =
      next-back (unary_decoder stop) (unary_word stop k) k f (unary-read stop k small) behind

  pub truth-back : (c : Bool) (f : Bool → Decoder B) → RoundTrip (f c) es b
      → RoundTrip (and_then (truth_decoder 1) f) (truth 1 c ∷ es) b
  truth-back c f behind = next-back (truth_decoder 1) (truth 1 c) c f (truth-read c) behind

  pub skip-back : (n : ℕ) (f : Unit {0} → Decoder B) → RoundTrip (f tt) es b
      → RoundTrip (and_then (skip_decoder n) f) (zeros n ∷ es) b
  skip-back n f behind = next-back (skip_decoder n) (zeros n) tt f (skip-read n) behind

  module _ (o : Order) where
    pub const-back : (n v : ℕ) (f : Bool → Decoder B) → v < 2 ^ n → RoundTrip (f true) es b
        → RoundTrip (and_then (const_decoder o n v) f) (plain (word o n v) ∷ es) b
    const-back n v f fits behind =
        next-back (const_decoder o n v) (plain (word o n v)) true f (const-read o n v fits) behind

    pub count-back : (max n : ℕ) (f : ℕ → Decoder B) → n ≤ max → RoundTrip (f n) es b
        → RoundTrip (and_then (count_decoder o max) f) (count o max n ∷ es) b
    count-back max n f le behind = next-back (count_decoder o max) (count o max n) n f (count-read o max n le) behind

    pub bytes-back : (n : ℕ) (bytes : List ℕ) (f : List ℕ → Decoder B) → length bytes ≡ n → All (λ v. v < 256) bytes
        → RoundTrip (f bytes) es b → RoundTrip (and_then (bytes_decoder o n) f) (buffer o bytes ∷ es) b
    bytes-back n bytes f size fit behind =
        subst (λ (k : ℕ). RoundTrip (and_then (bytes_decoder o k) f) (buffer o bytes ∷ es) b) size
        (next-back (bytes_decoder o (length bytes)) (buffer o bytes) bytes f (bytes-read o bytes fit) behind)

    pub vec-back : (n : ℕ) (bytes : List ℕ) (f : List ℕ → Decoder B) → length bytes ≡ n → All (λ v. v < 256) bytes
        → RoundTrip (f bytes) es b → RoundTrip (and_then (vec_decoder o n) f) (buffer o bytes ∷ es) b
    vec-back n bytes f size fit behind =
        subst (λ (k : ℕ). RoundTrip (and_then (vec_decoder o k) f) (buffer o bytes ∷ es) b) size
        (next-back (vec_decoder o (length bytes)) (buffer o bytes) bytes f (bytes-read o bytes fit) behind)

    -- by the strict read and by the lenient one
    groups-back : (strict : Bool) (field size v : ℕ) (f : ℕ → Decoder B) → nat_le 2 field ≡ true
        → nat_le 1 size ≡ true → v < 2 ^ size → RoundTrip (f v) es b
        → RoundTrip (and_then (groups_decoder strict o field size (2 ^ size)) f) (vbr o field v ∷ es) b
    groups-back strict field size v f groups bits fits behind =
        let wide : 2 ≤ field = grind (arith, nat_tests) in
        let some : 0 < size = grind (arith, nat_tests) in
        next-back (groups_decoder strict o field size (2 ^ size)) (vbr o field v) v f
        (groups-read strict o field size (2 ^ size) v wide some (omega arith) fits) behind

    pub vbr-back : (field size v : ℕ) (f : ℕ → Decoder B) → nat_le 2 field ≡ true → nat_le 1 size ≡ true
        → v < 2 ^ size → RoundTrip (f v) es b
        → RoundTrip (and_then (vbr_decoder o field size (2 ^ size)) f) (vbr o field v ∷ es) b
    vbr-back = groups-back true

    pub any_vbr-back : (field size v : ℕ) (f : ℕ → Decoder B) → nat_le 2 field ≡ true → nat_le 1 size ≡ true
        → v < 2 ^ size → RoundTrip (f v) es b
        → RoundTrip (and_then (any_vbr_decoder o field size (2 ^ size)) f) (vbr o field v ∷ es) b
    any_vbr-back = groups-back false

    signed_groups-back : (strict : Bool) (field size : ℕ) (x : ℤ) (f : ℤ → Decoder B) → nat_le 2 field ≡ true
        → nat_le 1 size ≡ true → FitsSignedBits size x → RoundTrip (f x) es b
        → RoundTrip (and_then (signed_groups_decoder strict o field size) f) (signed_vbr o field x ∷ es) b
    signed_groups-back strict field size x f groups bits fits behind =
        let wide : 2 ≤ field = grind (arith, nat_tests) in
        let some : 0 < size = grind (arith, nat_tests) in
        next-back (signed_groups_decoder strict o field size) (signed_vbr o field x) x f
        (signed_groups-read strict o field size x wide some fits) behind

    pub signed_vbr-back : (field size : ℕ) (x : ℤ) (f : ℤ → Decoder B) → nat_le 2 field ≡ true → nat_le 1 size ≡ true
        → FitsSignedBits size x → RoundTrip (f x) es b
        → RoundTrip (and_then (signed_vbr_decoder o field size) f) (signed_vbr o field x ∷ es) b
    signed_vbr-back = signed_groups-back true

    pub any_signed_vbr-back : (field size : ℕ) (x : ℤ) (f : ℤ → Decoder B) → nat_le 2 field ≡ true
        → nat_le 1 size ≡ true → FitsSignedBits size x → RoundTrip (f x) es b
        → RoundTrip (and_then (any_signed_vbr_decoder o field size) f) (signed_vbr o field x ∷ es) b
    any_signed_vbr-back = signed_groups-back false

    -- a value that its number gives back
    pub non_zero-back : {A : Type 0} (after : ℕ → A) (size n v : ℕ) (a : A) (f : A → Decoder B) → nat_lt n size ≡ true
        → v - 1 < 2 ^ n → after (v - 1) ≡ a → RoundTrip (f a) es b
        → RoundTrip (and_then (non_zero_decoder after o size n) f) (non_zero o size n v ∷ es) b
    non_zero-back after size n v a f less fits same behind =
        let within : n < size = grind (arith, nat_tests) in
        let value = ap after (value_in-fits n (v - 1) fits) ∙ same in
        next-back (non_zero_decoder after o size n) (non_zero o size n v) a f
        (subst (IsReadAs (non_zero o size n v ∷ []) (non_zero_decoder after o size n)) value
        (non_zero-read after o size n v within (inl fits))) behind

    pub option-back : {A : Type 0} (after : ℕ → A) (size n v : ℕ) (a : Option A) (f : Option A → Decoder B)
        → nat_le n size ≡ true → v < 2 ^ n → if_any after v ≡ a → RoundTrip (f a) es b
        → RoundTrip (and_then (option_decoder after o size n) f) (unsigned o size n v ∷ es) b
    option-back after size n v a f less fits same behind =
        let within : n ≤ size = grind (arith, nat_tests) in
        let value = ap (if_any after) (value_in-fits n v fits) ∙ same in
        next-back (option_decoder after o size n) (unsigned o size n v) a f
        (subst (IsReadAs (unsigned o size n v ∷ []) (option_decoder after o size n)) value
        (option-read after o size n v within (inl fits))) behind

-- the set of all of these
pub ruleset calls_round_trip = (
  round_trip,
  unary-back,
  truth-back,
  skip-back,
  const-back,
  count-back,
  bytes-back,
  vbr-back,
  any_vbr-back,
  signed_vbr-back,
  any_signed_vbr-back,
  non_zero-back,
  option-back,
)
