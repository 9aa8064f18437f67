-- The laws of sizes: a part of a stated size, and items that fill one, are read back, and the size is accepted.
use Rattle.std.proofs.Common.{◌≡◌, ◌∙◌, ℕ, zero, suc, ◌+◌, ◌-◌, ◌*◌, ◌/◌, ◌^◌, ◌<◌, ◌≤◌, Bool, true, List, [], ◌∷◌, ◌++◌, drop, length, length-append, append-nil, append_assoc, None, Some, Result, Ok, Err, refl, sym, ap, subst, arith}
use Rattle.std.specs.Prelude.{min, nat_lt, nat_le, if◌then◌else◌, flat_map}
use Rattle.std.specs.List.{All, AllByRecursion}
use Rattle.std.proofs.Math.Nat.{div-add-mod, mul-le-mul_right}
use Rattle.std.proofs.Math.Seq.{drop-append_seam}
use Rattle.std.proofs.lemmas.Bool.{eq-eqb, leb-true, ltb-true, le-leb}
use Rattle.std.proofs.lemmas.List.Elements.{recursion_from_All}
use Rattle.bitstream_count.specs.declared.error.Error.{Error}
use Rattle.bitstream_count.specs.declared.error.Error.TheVariants.{CounterOverflow}
use Rattle.bitstream_count.specs.Codec.{result_then}
use Rattle.bitstream_stream.specs.Sequence.{accepted_bits}
use Rattle.bitstream_value.specs.Lengths.{counted_bits}
use Rattle.bitstream_value.proofs.LengthLemmas.{if-false}
use Rattle.bitstream_value.proofs.LengthLemmas.{within as not_past}
use Rattle.bitstream_io.specs.Callers.{Decoder, Encoder, Done, Order, AllAccepted, and_then, unsigned_decoder, unsigned, write_sequence}
use Rattle.bitstream_io.specs.ReadBack.{IsReadAs}
use Rattle.bitstream_io.proofs.SequenceLemmas.{write_sequence-append}
use Rattle.bitstream_io.proofs.CallerLemmas.{IsWritten, RoundTrip, Packs, unsigned-back, unsigned-written}
use Rattle.bitstream_format.specs.Sizes.{item_and, limited-goes}
use Rattle.bitstream_format.specs.Within.{within, sized_decoder, size_encoder, size_of}
use Rattle.bitstream_format.specs.Stated.{if_stated, size_in_units, stated_decoder, stated_size, stored_encoder, stored_of, stored_size, units_in}
use Rattle.bitstream_format.specs.Filled.{next_item, items_from, filled_decoder}

-- ---- a part of n bytes

module _ {A E : Type 0} (decoder : Order → Decoder (Result A E)) (err : E) (own : Error → E) (ended : E → E) (o : Order) where
  within-again : (es : List Encoder) (a : A) → IsReadAs es (decoder o) (Ok a) → (at : ℕ)
      → within (decoder o) err own ended (write_sequence es at) ≡ Ok a
  within-again es a back at =
      let w = write_sequence es at in
      let found : (decoder o).reads 0 w ≡ Done (length w) (Ok (Ok a)) =
      subst (λ (v : List Bool). (decoder o).reads 0 v ≡ Done (length w) (Ok (Ok a))) (append-nil w) (back at 0 []) in
      rw (found, eq-eqb (length w) (length w) refl) refl

  -- a part of n bytes is read back
  pub sized-read : (n : ℕ) (es : List Encoder) (a : A) → Packs es (8 * n) → IsReadAs es (decoder o) (Ok a)
      → IsReadAs es (sized_decoder decoder err own ended o n) (Ok a)
  sized-read n es a packs back =
      (limited-goes true n (within (decoder o) err own ended) o es (Ok a) packs (within-again es a back)).back

-- ---- its size

counted-accepted : (most : ℕ) (es : List Encoder) (len : ℕ) → AllAccepted es len
    → len + length (write_sequence es len) ≤ most
    → counted_bits most es len ≡ Ok (len + length (write_sequence es len))
counted-accepted most [] len all le = ap Ok (omega arith)
counted-accepted most (e ∷ es) len all le =
    let w = accepted_bits (e len) in
    let sum = length-append w (write_sequence es (len + length w)) in
    ap (λ x. result_then x (λ word. if nat_lt most (len + length word) then Err CounterOverflow else counted_bits most es (len + length word))) all.0
    ∙ if-false _ _ _ (not_past most (len + length w) (omega (arith, le, sum)))
    ∙ counted-accepted most es (len + length w) all.1 (omega (arith, le, sum)) ∙ ap Ok (omega (arith, sum))

-- calls that are all accepted: their number of bits
pub counted-is : (es : List Encoder) (m : ℕ) → Packs es m → m ≤ 18446744073709551615
    → counted_bits 18446744073709551615 es 0 ≡ Ok m
counted-is es m packs le =
    let long = packs.size 0 in
    let sum : 0 + length (write_sequence es 0) ≡ m = omega (arith, long) in
    counted-accepted 18446744073709551615 es 0 (packs.accepted 0) (omega (arith, le, long)) ∙ ap Ok sum

-- the size is their number of bytes
pub size-is : (o : Order) (width : ℕ) (es : List Encoder) (m : ℕ) → Packs es m → m ≤ 18446744073709551615
    → size_encoder o width es ≡ unsigned o 64 width (m / 8)
unfolding size_encoder
size-is o width es m packs le = ap (size_of o width) (counted-is es m packs le)

-- the size of calls that are all accepted: its write appends `width` bits
pub size-written : (o : Order) (width : ℕ) (es : List Encoder) (m : ℕ) → Packs es m → m ≤ 18446744073709551615
    → nat_le width 64 ≡ true → m / 8 < 2 ^ width → IsWritten (size_encoder o width es) width
size-written o width es m packs le wide small =
    subst (λ e. IsWritten e width) (sym (size-is o width es m packs le)) (unsigned-written o 64 width (m / 8) wide small)

pub size-back : {A : Type 0} (o : Order) (width : ℕ) (es rest : List Encoder) (a : A) (m : ℕ) (f : ℕ → Decoder A)
    → Packs es m → m ≤ 18446744073709551615 → nat_le width 64 ≡ true → m / 8 < 2 ^ width → RoundTrip (f (m / 8)) rest a
    → RoundTrip (and_then (unsigned_decoder o 64 width) f) (size_encoder o width es ∷ rest) a
size-back o width es rest a m f packs le wide small behind =
    subst (λ e. RoundTrip (and_then (unsigned_decoder o 64 width) f) (e ∷ rest) a) (sym (size-is o width es m packs le))
    (unsigned-back o width rest a 64 (m / 8) f wide small behind)

-- ---- sizes in units

-- whole units
units_whole : (unit less counted most : ℕ) → units_in unit less counted < most → most ≤ 18446744073709551615
    → counted ≡ units_in unit less counted * unit + less
units_whole unit less counted most small le = grind (arith, div-add-mod)

-- a size that does not reach 2^64 - 1
sum_whole : (bytes plus number unit less most : ℕ) → min (bytes + plus) 18446744073709551615 ≡ number * unit + less
    → number < most → most * unit + less < 18446744073709551615 → bytes + plus ≡ number * unit + less
sum_whole bytes plus number unit less most whole small room =
    let fewer : number * unit ≤ most * unit = mul-le-mul_right unit (omega (arith, small)) in
    omega (arith, whole, fewer, room)

units_again : (unit less number counted : ℕ) → counted ≡ number * unit + less → counted < 18446744073709551615
    → min (min (number * unit) 18446744073709551615 + less) 18446744073709551615 ≡ counted
units_again unit less number counted is room = omega (arith, is, room)

minus_again : (bytes plus counted : ℕ) → counted ≡ bytes + plus
    → (if nat_le plus counted then Some (counted - plus) else None) ≡ Some bytes
minus_again bytes plus counted is = rw (le-leb plus counted (omega (arith, is))) (ap Some (omega (arith, is)))

module _ (unit plus less bytes most : ℕ) (small : stored_size unit plus less bytes < most)
    (low : nat_le most 18446744073709551615 ≡ true) (room : nat_lt (most * unit + less) 18446744073709551615 ≡ true) where
  -- a number below `most` states whole units
  pub stored-whole : bytes + plus ≡ stored_size unit plus less bytes * unit + less
  unfolding stored_size
  stored-whole =
      sum_whole bytes plus (stored_size unit plus less bytes) unit less most
      (units_whole unit less (min (bytes + plus) 18446744073709551615) most small (leb-true _ _ low)) small (ltb-true _ _ room)

  stored-in_units : size_in_units unit less (stored_size unit plus less bytes) ≡ bytes + plus
  unfolding size_in_units
  stored-in_units =
      let fewer : stored_size unit plus less bytes * unit ≤ most * unit = mul-le-mul_right unit (omega (arith, small)) in
      let below : most * unit + less < 18446744073709551615 = ltb-true _ _ room in
      let whole : bytes + plus ≡ stored_size unit plus less bytes * unit + less = stored-whole in
      units_again unit less (stored_size unit plus less bytes) (bytes + plus) whole (omega (arith, whole, fewer, below))

  -- it states the bytes again
  pub stated-again : stated_size unit plus less (stored_size unit plus less bytes) ≡ Some bytes
  unfolding stated_size
  stated-again = minus_again bytes plus _ stored-in_units

  -- a part whose size it states is read back
  pub stated-read : {A E : Type 0} (err : E) (decoder : Order → ℕ → Decoder (Result A E)) (o : Order) (es : List Encoder)
      (r : Result A E) → IsReadAs es (decoder o bytes) r
      → IsReadAs es (stated_decoder unit plus less err decoder o (stored_size unit plus less bytes)) r
  stated-read err decoder o es r back =
      subst (λ size. IsReadAs es (if_stated err (decoder o) size) r) (sym stated-again) back

-- without `plus` each number states a size
pub units-again : (unit less bytes most : ℕ) → stored_size unit 0 less bytes < most → nat_le most 18446744073709551615 ≡ true
    → nat_lt (most * unit + less) 18446744073709551615 ≡ true
    → bytes ≡ size_in_units unit less (stored_size unit 0 less bytes)
units-again unit less bytes most small low room =
    let same = stored-in_units unit 0 less bytes most small low room in omega (arith, same)

-- calls that are all accepted: the number that states their bytes
stored-is : (o : Order) (width unit plus less : ℕ) (es : List Encoder) (m : ℕ) → Packs es m → m ≤ 18446744073709551615
    → stored_encoder o width unit plus less es ≡ unsigned o 64 width (stored_size unit plus less (m / 8))
unfolding stored_encoder
stored-is o width unit plus less es m packs le = ap (stored_of o width unit plus less) (counted-is es m packs le)

-- it is accepted, and read back
pub stored-written : (o : Order) (width unit plus less : ℕ) (es : List Encoder) (m : ℕ) → Packs es m → m ≤ 18446744073709551615
    → nat_le width 64 ≡ true → stored_size unit plus less (m / 8) < 2 ^ width
    → IsWritten (stored_encoder o width unit plus less es) width
stored-written o width unit plus less es m packs le wide small =
    subst (λ e. IsWritten e width) (sym (stored-is o width unit plus less es m packs le))
    (unsigned-written o 64 width (stored_size unit plus less (m / 8)) wide small)

pub stored-back : {A : Type 0} (o : Order) (width unit plus less : ℕ) (es rest : List Encoder) (a : A) (m : ℕ) (f : ℕ → Decoder A)
    → Packs es m → m ≤ 18446744073709551615 → nat_le width 64 ≡ true → stored_size unit plus less (m / 8) < 2 ^ width
    → RoundTrip (f (stored_size unit plus less (m / 8))) rest a
    → RoundTrip (and_then (unsigned_decoder o 64 width) f) (stored_encoder o width unit plus less es ∷ rest) a
stored-back o width unit plus less es rest a m f packs le wide small behind =
    subst (λ e. RoundTrip (and_then (unsigned_decoder o 64 width) f) (e ∷ rest) a)
    (sym (stored-is o width unit plus less es m packs le))
    (unsigned-back o width rest a 64 (stored_size unit plus less (m / 8)) f wide small behind)

-- ---- items that fill their bytes

-- more items before the result of the others
abbrev pub items_and : {A E : Type 0} → List A → Result (List A) E → Result (List A) E
items_and found (Ok xs) = Ok (found ++ xs)
items_and found (Err e) = Err e

pub items_and-push : {A E : Type 0} (found : List A) (x : A) (r : Result (List A) E)
    → items_and found (item_and x r) ≡ items_and (found ++ x ∷ []) r
items_and-push found x (Ok xs) = ap Ok (sym (append_assoc found (x ∷ []) xs))
items_and-push found x (Err e) = refl

pub none_left : {X : Type 0} (l : List X) → length l ≡ 0 → l ≡ []
none_left [] is = refl
none_left (x ∷ xs) is = let no : length (x ∷ xs) ≡ 0 = is in absurd (omega (arith, no))

module _ {A E : Type 0} (decoder : Decoder (Result A E)) (err : E) (own : Error → E) (ended : E → E) where
  pub items-next : (p most : ℕ) (l : List Bool) → (length l ≡ 0 → ⊥)
      → items_from decoder err own ended p l (suc most) ≡ next_item err own ended (decoder.reads p l)
      (λ n. items_from decoder err own ended (p + n) (drop n l) most)
  items-next p most [] some = absurd (some refl)
  items-next p most (b ∷ bs) some = refl

  pub items-none : (p : ℕ) (l : List Bool) → (length l ≡ 0 → ⊥) → items_from decoder err own ended p l 0 ≡ Err err
  items-none p [] some = absurd (some refl)
  items-none p (b ∷ bs) some = refl

  pub items-step : (x : A) (p most : ℕ) (l w rest : List Bool) → l ≡ w ++ rest → (length l ≡ 0 → ⊥)
      → decoder.reads p (w ++ rest) ≡ Done (length w) (Ok (Ok x))
      → items_from decoder err own ended p l (suc most)
      ≡ item_and x (items_from decoder err own ended (p + length w) rest most)
  items-step x p most l w rest parts some found =
      let whole : decoder.reads p l ≡ Done (length w) (Ok (Ok x)) = ap (decoder.reads p) parts ∙ found in
      let behind : drop (length w) l ≡ rest = ap (drop (length w)) parts ∙ drop-append_seam w rest in
      items-next p most l some
      ∙ ap (λ z. next_item err own ended z (λ n. items_from decoder err own ended (p + n) (drop n l) most)) whole
      ∙ ap (λ z. item_and x (items_from decoder err own ended (p + length w) z most)) behind

  -- items that were written are read back
  items-again : (write : A → List Encoder) (xs : List A) → AllByRecursion (λ x. IsReadAs (write x) decoder (Ok x)) xs
      → AllByRecursion (λ x. (at : ℕ) → 8 ≤ length (write_sequence (write x) at)) xs
      → (at p most : ℕ) → length (write_sequence (flat_map write xs) at) ≤ 8 * most
      → items_from decoder err own ended p (write_sequence (flat_map write xs) at) most ≡ Ok xs
  items-again write [] back some at p most le = refl
  items-again write (x ∷ xs) back some at p zero le =
      let w = write_sequence (write x) at in
      let all = write_sequence-append (write x) (flat_map write xs) at in
      let both = length-append w (write_sequence (flat_map write xs) (at + length w)) in
      let sum : length (write_sequence (write x ++ flat_map write xs) at)
      ≡ length w + length (write_sequence (flat_map write xs) (at + length w)) = ap length all ∙ both in
      let wide : 8 ≤ length w = some.0 at in
      absurd (omega (arith, le, sum, wide))
  items-again write (x ∷ xs) back some at p (suc most) le =
      let w = write_sequence (write x) at in
      let rest = write_sequence (flat_map write xs) (at + length w) in
      let all : write_sequence (write x ++ flat_map write xs) at ≡ w ++ rest =
      write_sequence-append (write x) (flat_map write xs) at in
      let sum : length (write_sequence (write x ++ flat_map write xs) at) ≡ length w + length rest =
      ap length all ∙ length-append w rest in
      let wide : 8 ≤ length w = some.0 at in
      let fewer : length rest ≤ 8 * most = omega (arith, le, sum, wide) in
      let long : length (write_sequence (write x ++ flat_map write xs) at) ≡ 0 → ⊥ = λ none. omega (arith, none, sum, wide) in
      items-step x p most _ w rest all long (back.0 at p rest)
      ∙ ap (item_and x) (items-again write xs back.1 some.1 (at + length w) (p + length w) most fewer)

-- items of n bytes are read back
pub filled-read : {A E : Type 0} (decoder : Order → Decoder (Result A E)) (err : E) (own : Error → E) (ended : E → E)
    (o : Order) (n : ℕ) (write : A → List Encoder) (xs : List A) → Packs (flat_map write xs) (8 * n)
    → All (λ x. IsReadAs (write x) (decoder o) (Ok x)) xs
    → All (λ x. (at : ℕ) → 8 ≤ length (write_sequence (write x) at)) xs
    → IsReadAs (flat_map write xs) (filled_decoder decoder err own ended o n) (Ok xs)
filled-read decoder err own ended o n write xs packs back some =
    (limited-goes true n (λ w. items_from (decoder o) err own ended 0 w n) o (flat_map write xs) (Ok xs) packs
    (λ at. items-again (decoder o) err own ended write xs (recursion_from_All _ xs back) (recursion_from_All _ xs some) at 0 n
    (let long = packs.size at in omega (arith, long)))).back
