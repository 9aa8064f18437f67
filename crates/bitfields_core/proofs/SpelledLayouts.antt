-- The text of fields spells these fields, and no other text does.
use Rattle.std.specs.Prelude.{Bool, true, false, ◌&&◌, ◌==◌, if◌then◌else◌, nat_lt, option_map, map, position, All}
use Rattle.std.specs.List.{join_with_byte, position_or_len, AllByRecursion}
use Rattle.std.specs.Fmt.{decimal}
use Rattle.std.proofs.Common.{◌≡◌, ℕ, zero, suc, not, ◌+◌, ◌-◌, ◌<◌, ◌≤◌, ◌^◌, List, [], ◌∷◌, ◌++◌, length, get_or, take, drop, Option, Some, None, Result, Ok, Err, refl, sym, ap, subst, ◌∙◌, arith, lit<, add-one, drop-cons, length-append}
use Rattle.std.proofs.Math.Pow.{pow_mono}
use Rattle.std.proofs.Math.Seq.{take-append_seam, drop-append-add, get_or-append_seam}
use Rattle.std.proofs.Math.ListN.{get_or-append}
use Rattle.std.proofs.lemmas.Bool.{le-ltb, lt-ltb, ltb-false, eqb-true, ne_eqb}
use Rattle.std.proofs.lemmas.List.{length-map, take-append-drop}
use Rattle.std.proofs.lemmas.List.Elements.{All-cons, All-nil, All-append, recursion_from_All, All-from_recursion}
use Rattle.std.proofs.lemmas.List.Quantifiers.{position-Some}
use Rattle.std.proofs.lemmas.List.Sums.{prefix_len_is}
use Rattle.std.proofs.lemmas.List.Splits.{slice_split_none, slice_split_at, length-slice_split, join_with_byte-slice_split}
use Rattle.bitfields_core.specs.declared.fault.Fault.{Fault}
use Rattle.bitfields_core.specs.declared.field.Field.{Field}
use Rattle.bitfields_core.specs.declared.fault.Reason.TheVariants.{TooManyFields}
use Rattle.bitfields_core.specs.Fault.{fault}
use Rattle.bitfields_core.specs.declared.field.Field.TheVariants.{Unsigned, Signed, Unary, Variable, Lenient, SignedVariable, Bytes, Constant, Padding, Align}
use Rattle.bitfields_core.specs.declared.field.GroupSize.{GroupSize}
use Rattle.bitfields_core.specs.declared.field.GroupSize.TheVariants.{Four, Eight}
use Rattle.bitstream_io.specs.Word.{digit_value}
use Rattle.bitfields_core.specs.Decimal.{decimal_within}
use Rattle.bitfields_core.specs.Layout.{field_after, field_of, field_and, fields_of, layout_of, group_bits, group_size, group_size_of, constant, constant_at, constant_after, segments, one_more, IsField, IsLayout, field_text, layout_text}
use Rattle.bitfields_core.proofs.DecimalLemmas.{decimal_within-decimal, decimal-of_within, decimal_lacks, decimal_lacks_above, limit_small}
use Rattle.std.proofs.lemmas.Grind.{common_steps}

abbrev lacks_comma : List ℕ → Type 0
lacks_comma text = All (λ b. (b == 44) ≡ false) text

small : (n : ℕ) → n ≤ 65536 → n < 10 ^ 64
small n h =
    let top : 65536 < 10 ^ 64 = lit< tt in
    omega (arith, top)

-- a letter and a number have no comma
letter-lacks_comma : (letter n : ℕ) → 44 < letter → n ≤ 65536 → lacks_comma (letter ∷ decimal n)
letter-lacks_comma letter n above h = All-cons (λ b. (b == 44)
    ≡ false) letter (decimal n) (ne_eqb letter 44 (λ e. omega arith)) (decimal_lacks 44 n (lit< tt) (small n h))

bit_small : (stop : Bool) → digit_value stop ≤ 1
bit_small true = omega arith
bit_small false = omega arith

size_small : (size : GroupSize) → (4 ≤ group_bits size) × (group_bits size ≤ 8)
size_small Four = (omega arith, omega arith)
size_small Eight = (omega arith, omega arith)

-- a number of a constant's bits has few digits
constant_small : (n v : ℕ) → n ≤ 32 → v < 2 ^ n → v < 10 ^ 64
constant_small n v h l = omega (arith, l, limit_small n (omega arith))

constant_text-lacks_comma : (n v : ℕ) → IsField (Constant n v) → lacks_comma (field_text (Constant n v))
constant_text-lacks_comma n v h =
    All-cons (λ b. (b == 44) ≡ false) 99 (decimal n ++ 61 ∷ decimal v) refl
    (All-append (λ b. (b == 44) ≡ false) (decimal n) (61 ∷ decimal v)
    (decimal_lacks 44 n (lit< tt) (small n (omega (arith, h.1))))
    (All-cons (λ b. (b == 44) ≡ false) 61 (decimal v) refl
    (decimal_lacks 44 v (lit< tt) (constant_small n v h.1 h.2))))

field_text-lacks_comma : (f : Field) → IsField f → lacks_comma (field_text f)
field_text-lacks_comma (Unsigned n) h = letter-lacks_comma 117 n (lit< tt) (omega (arith, h.1))
field_text-lacks_comma (Signed n) h = letter-lacks_comma 105 n (lit< tt) (omega (arith, h.1))
field_text-lacks_comma (Unary stop) h = letter-lacks_comma 110 (digit_value stop) (lit< tt)
    (omega (arith, bit_small stop))
field_text-lacks_comma (Variable size) h = letter-lacks_comma 118 (group_bits size) (lit< tt)
    (omega (arith, (size_small size).1))
field_text-lacks_comma (Lenient size) h = letter-lacks_comma 108 (group_bits size) (lit< tt)
    (omega (arith, (size_small size).1))
field_text-lacks_comma (SignedVariable size) h = letter-lacks_comma 115 (group_bits size) (lit< tt)
    (omega (arith, (size_small size).1))
field_text-lacks_comma (Bytes n) h = letter-lacks_comma 98 n (lit< tt) h.1
field_text-lacks_comma (Constant n v) h = constant_text-lacks_comma n v h
field_text-lacks_comma (Padding n) h = letter-lacks_comma 112 n (lit< tt) (omega (arith, h.1))
field_text-lacks_comma Align h = All-cons (λ b. (b == 44) ≡ false) 97 [] refl (All-nil (λ b. (b == 44) ≡ false))

-- the number that is written is spelt
spelt_number : (low high n : ℕ) → high ≤ 65536 → low ≤ n → n ≤ high → decimal_within low high (decimal n) ≡ Some n
spelt_number low high n top from to = decimal_within-decimal low high n (small n (omega arith)) from to

stop_back : (stop : Bool) → Unary (digit_value stop == 1) ≡ Unary stop
stop_back true = refl
stop_back false = refl

size_back : (size : GroupSize) → group_size (decimal (group_bits size)) ≡ Some size
size_back Four = ap group_size_of (spelt_number 4 8 4 (omega arith) (omega arith) (omega arith))
size_back Eight = ap group_size_of (spelt_number 4 8 8 (omega arith) (omega arith) (omega arith))

-- the first `=` stands behind what has none
first_sign : (xs ys : List ℕ) → All (λ b. (b == 61) ≡ false) xs → position (λ b. b == 61) (xs ++ 61 ∷ ys)
    ≡ Some (length xs)
first_sign xs ys lacks =
    let size : length xs < length (xs ++ 61 ∷ ys) = rw length-append (omega arith) in
    let here : position_or_len (λ b. b == 61) (xs ++ 61 ∷ ys) ≡ length xs =
    prefix_len_is (λ b. not (b == 61)) (xs ++ 61 ∷ ys) (length xs) 0 (omega arith)
    (λ k below. rw (get_or-append xs (61 ∷ ys) 0 k below, lacks k 0 below) refl)
    (λ below. rw (get_or-append_seam xs 61 ys 0) refl) in
    rw (here, lt-ltb (length xs) (length (xs ++ 61 ∷ ys)) size) refl

-- what stands before the sign and behind it
constant_parts : (xs ys : List ℕ) → All (λ b. (b == 61) ≡ false) xs → constant (xs ++ 61 ∷ ys)
    ≡ constant_after (decimal_within 1 32 xs) ys
constant_parts xs ys lacks =
    ap (λ (sign : Option ℕ). constant_at sign (xs ++ 61 ∷ ys)) (first_sign xs ys lacks)
    ∙ ap (λ (prefix : List ℕ). constant_after (decimal_within 1 32 prefix) (drop (length xs + 1) (xs ++ 61 ∷ ys)))
    (take-append_seam xs (61 ∷ ys))
    ∙ ap (constant_after (decimal_within 1 32 xs)) (drop-append-add xs (61 ∷ ys) 1)

constant_back : (n v : ℕ) → IsField (Constant n v) → constant (decimal n ++ 61 ∷ decimal v) ≡ Some (Constant n v)
constant_back n v h =
    constant_parts (decimal n) (decimal v) (decimal_lacks_above 61 n (lit< tt) (small n (omega (arith, h.1))))
    ∙ ap (λ (bits : Option ℕ). constant_after bits (decimal v)) (spelt_number 1 32 n (omega arith) h.0 h.1)
    ∙ ap (option_map (Constant n)) (decimal_within-decimal 0 (2 ^ n - 1) v (constant_small n v h.1 h.2) (omega arith)
    (omega (arith, h.2)))

field_of-field_text : (f : Field) → IsField f → field_of (field_text f) ≡ Some f
field_of-field_text (Unsigned n) h = ap (option_map Unsigned) (spelt_number 1 128 n (omega arith) h.0 h.1)
field_of-field_text (Signed n) h = ap (option_map Signed) (spelt_number 1 128 n (omega arith) h.0 h.1)
field_of-field_text (Unary stop) h =
    ap (option_map (λ (n : ℕ). Unary (n == 1))) (spelt_number 0 1 (digit_value stop) (omega arith) (omega arith)
    (bit_small stop)) ∙ ap Some (stop_back stop)
field_of-field_text (Variable size) h = ap (option_map Variable) (size_back size)
field_of-field_text (Lenient size) h = ap (option_map Lenient) (size_back size)
field_of-field_text (SignedVariable size) h = ap (option_map SignedVariable) (size_back size)
field_of-field_text (Bytes n) h = ap (option_map Bytes) (spelt_number 1 65536 n (omega arith) h.0 h.1)
field_of-field_text (Constant n v) h = constant_back n v h
field_of-field_text (Padding n) h = ap (option_map Padding) (spelt_number 1 4096 n (omega arith) h.0 h.1)
field_of-field_text Align h = refl

segments-layout_text : (f : Field) (fs : List Field) → AllByRecursion IsField (f ∷ fs) → segments (layout_text (f ∷ fs))
    ≡ map field_text (f ∷ fs)
segments-layout_text f [] h = slice_split_none (λ b. b == 44) (field_text f) (field_text-lacks_comma f h.0)
segments-layout_text f (g ∷ fs) h =
    slice_split_at (λ b. b == 44) (field_text f) 44 (layout_text (g ∷ fs)) (field_text-lacks_comma f h.0) refl
    ∙ ap (λ (rest : List (List ℕ)). field_text f ∷ rest) (segments-layout_text g fs h.1)

fields_of-field_text : (k : ℕ) (fs : List Field) → AllByRecursion IsField fs → fields_of k (map field_text fs) ≡ Ok fs
fields_of-field_text k [] h = refl
fields_of-field_text k (f ∷ fs) h =
    ap (λ (o : Option Field). field_and k o (fields_of (k + 1) (map field_text fs))) (field_of-field_text f h.0)
    ∙ ap (one_more f) (fields_of-field_text (k + 1) fs h.1)

pub layout_of-layout_text : (fields : List Field) → IsLayout fields → layout_of (layout_text fields) ≡ Ok fields
layout_of-layout_text [] h = absurd (let some = h.some in omega arith)
layout_of-layout_text (f ∷ fs) h =
    let each = recursion_from_All IsField (f ∷ fs) h.in_range in
    let cut = segments-layout_text f fs each in
    let few : length (map field_text (f ∷ fs)) ≤ 256 = rw length-map h.few in
    rw (cut, le-ltb 256 (length (map field_text (f ∷ fs))) few) (fields_of-field_text 1 (f ∷ fs) each)

-- ---- no other text

-- the field of a segment, if it is spelt: in range, and written as the segment
abbrev pub IsSpelt : List ℕ → Field → Type 0
IsSpelt segment f = IsField f × (field_text f ≡ segment)

-- a number that is spelt is the one that is written
number_spelt : {P : Type 0} (low high : ℕ) (rest : List ℕ) (o : Option ℕ) (make : ℕ → Field) (f : Field) → high ≤ 65536
    → decimal_within low high rest ≡ o → option_map make o ≡ Some f
    → ((n : ℕ) → low ≤ n → n ≤ high → decimal n ≡ rest → make n ≡ f → P) → P
number_spelt low high rest None make f top e h found = absurd (cc)
number_spelt low high rest (Some n) make f top e h found =
    let p = decimal-of_within low high n rest (small high top) e in
    let same : make n ≡ f = cc in
    found n p.0 p.1 p.2 same

stop_spelt : (n : ℕ) → n ≤ 1 → digit_value (n == 1) ≡ n
stop_spelt zero h = refl
stop_spelt (suc zero) h = refl
stop_spelt (suc (suc n)) h = absurd (omega arith)

size_by : (a b : Bool) (n : ℕ) (size : GroupSize) → (n == 4) ≡ a → (n == 8) ≡ b
    → (let r : Option GroupSize = if a then Some Four else if b then Some Eight else None in r) ≡ Some size
    → group_bits size ≡ n
size_by true b n size e d h =
    let same : Four ≡ size = cc in
    subst (λ (s : GroupSize). group_bits s ≡ n) same (sym (eqb-true n 4 e))
size_by false true n size e d h =
    let same : Eight ≡ size = cc in
    subst (λ (s : GroupSize). group_bits s ≡ n) same (sym (eqb-true n 8 d))
size_by false false n size e d h = absurd (cc)

-- a size of groups that is spelt is the one that is written
size_spelt : {P : Type 0} (rest : List ℕ) (o : Option ℕ) (make : GroupSize → Field) (f : Field)
    → decimal_within 4 8 rest ≡ o → option_map make (group_size_of o) ≡ Some f
    → ((size : GroupSize) → decimal (group_bits size) ≡ rest → make size ≡ f → P) → P
size_spelt rest None make f e h found = absurd (cc)
size_spelt {P = P} rest (Some n) make f e h found =
    size_at (group_size_of (Some n)) refl h
  where
    size_at : (o : Option GroupSize) → group_size_of (Some n) ≡ o → option_map make o ≡ Some f → P
    size_at None is known = absurd (cc)
    size_at (Some size) is known =
        let same : make size ≡ f = cc in
        let written = (decimal-of_within 4 8 n rest (lit< tt) e).2 in
        found size (ap decimal (size_by (n == 4) (n == 8) n size refl refl is) ∙ written) same

-- a constant that is spelt is the one that is written
constant_after_spelt : {P : Type 0} (prefix back : List ℕ) (n : ℕ) (number : Option ℕ) (f : Field)
    → decimal_within 1 32 prefix ≡ Some n → decimal_within 0 (2 ^ n - 1) back ≡ number
    → option_map (Constant n) number ≡ Some f
    → ((n v : ℕ) → IsField (Constant n v) → decimal n ++ 61 ∷ decimal v ≡ prefix ++ 61 ∷ back → Constant n v ≡ f → P) → P
constant_after_spelt prefix back n None f e d h found = absurd (cc)
constant_after_spelt prefix back n (Some v) f e d h found =
    let p = decimal-of_within 1 32 n prefix (lit< tt) e in
    let some : 1 ≤ n = p.0 in
    let few : n ≤ 32 = p.1 in
    let top = limit_small n (omega arith) in
    let q = decimal-of_within 0 (2 ^ n - 1) v back (omega arith) d in
    let most = q.1 in
    let least : 0 ≤ n = omega arith in
    let some_number : 2 ^ 0 ≤ 2 ^ n = pow_mono least in
    let same : Constant n v ≡ f = cc in
    found n v (some, few, omega arith) (ap (λ t. t ++ 61 ∷ decimal v) p.2 ∙ ap (λ t. prefix ++ 61 ∷ t) q.2) same

constant_bits_spelt : {P : Type 0} (prefix back : List ℕ) (bits : Option ℕ) (f : Field)
    → decimal_within 1 32 prefix ≡ bits
    → constant_after bits back ≡ Some f
    → ((n v : ℕ) → IsField (Constant n v) → decimal n ++ 61 ∷ decimal v ≡ prefix ++ 61 ∷ back → Constant n v ≡ f → P) → P
constant_bits_spelt prefix back None f e h found = absurd (cc)
constant_bits_spelt prefix back (Some n) f e h found =
    constant_after_spelt prefix back n (decimal_within 0 (2 ^ n - 1) back) f e refl h found

constant_spelt : {P : Type 0} (rest : List ℕ) (sign : Option ℕ) (f : Field) → position (λ b. b == 61) rest ≡ sign
    → constant_at sign rest ≡ Some f
    → ((n v : ℕ) → IsField (Constant n v) → decimal n ++ 61 ∷ decimal v ≡ rest → Constant n v ≡ f → P) → P
constant_spelt rest None f e h found = absurd (cc)
constant_spelt rest (Some sign) f e h found =
    let p = position-Some (λ b. b == 61) rest sign 0 e in
    let cut : drop sign rest ≡ get_or rest sign 0 ∷ drop (sign + 1) rest = rw add-one (drop-cons rest sign 0 p.0) in
    let here : get_or rest sign 0 ≡ 61 = eqb-true (get_or rest sign 0) 61 p.1 in
    let whole : take sign rest ++ 61 ∷ drop (sign + 1) rest ≡ rest =
    ap (λ b. take sign rest ++ b ∷ drop (sign + 1) rest) (sym here) ∙ ap (λ t. take sign rest ++ t) (sym cut)
    ∙ take-append-drop sign rest in
    constant_bits_spelt (take sign rest) (drop (sign + 1) rest) (decimal_within 1 32 (take sign rest)) f refl h
    (λ n v range spells same. found n v range (spells ∙ whole) same)

-- a letter, if it is this one, decides the field; else the letters that follow do
by_letter : {P : Type 0} (is : Bool) (letter c : ℕ) (x y : Option Field) (f : Field) → (letter == c) ≡ is
    → (letter ≡ c → x ≡ Some f → P) → (y ≡ Some f → P) → (if is then x else y) ≡ Some f → P
by_letter true letter c x y f e here others h = here (eqb-true letter c e) h
by_letter false letter c x y f e here others h = others h

align_spelt : (a : Bool) (letter : ℕ) (rest : List ℕ) (f : Field) → (letter == 97 && (length rest == 0)) ≡ a
    → (let r : Option Field = if a then Some Align else None in r) ≡ Some f → IsSpelt (letter ∷ rest) f
align_spelt true letter [] f e h =
    let is : letter ≡ 97 = grind (arith, common_steps) in
    let same : Align ≡ f = cc in
    subst (λ c. IsSpelt (c ∷ []) f) (sym is) (subst (λ g. IsField g × (field_text g ≡ 97 ∷ [])) same (tt, refl))
align_spelt true letter (b ∷ rest) f e h = absurd (grind (arith, common_steps))
align_spelt false letter rest f e h = absurd (cc)

-- a field that is in range, of this letter and this number
written : (letter c : ℕ) (rest number : List ℕ) (g f : Field) → letter ≡ c → g ≡ f → IsField g → field_text g
    ≡ c ∷ number → number ≡ rest → IsSpelt (letter ∷ rest) f
written letter c rest number g f is same range text spells =
    (subst IsField same range, ap field_text (sym same) ∙ text ∙ ap (λ t. c ∷ t) spells ∙ ap (λ l. l ∷ rest) (sym is))

letter_spelt : (letter : ℕ) (rest : List ℕ) (f : Field) → field_after letter rest ≡ Some f → IsSpelt (letter ∷ rest) f
letter_spelt letter rest f h =
    by_letter (letter == 117) letter 117 _ _ f refl
    (λ is k. number_spelt 1 128 rest (decimal_within 1 128 rest) Unsigned f (omega arith) refl k
    (λ n some most spells same. written letter 117 rest (decimal n) (Unsigned n) f is same (
      some,
      most,
    ) refl spells))
    (by_letter (letter == 105) letter 105 _ _ f refl
    (λ is k. number_spelt 1 128 rest (decimal_within 1 128 rest) Signed f (omega arith) refl k
    (λ n some most spells same. written letter 105 rest (decimal n) (Signed n) f is same (some, most) refl spells))
    (by_letter (letter == 110) letter 110 _ _ f refl
    (λ is k. number_spelt 0 1 rest (decimal_within 0 1 rest) (λ n. Unary (n == 1)) f (omega arith) refl k
    (λ n some most spells same. written letter 110 rest (decimal n) (Unary (n == 1)) f is same tt
    (ap (λ m. 110 ∷ decimal m) (stop_spelt n most)) spells))
    (by_letter (letter == 118) letter 118 _ _ f refl
    (λ is k. size_spelt rest (decimal_within 4 8 rest) Variable f refl k
    (λ size spells same. written letter 118 rest (decimal (group_bits size)) (Variable size) f is same tt refl
    spells))
    (by_letter (letter == 108) letter 108 _ _ f refl
    (λ is k. size_spelt rest (decimal_within 4 8 rest) Lenient f refl k
    (λ size spells same. written letter 108 rest (decimal (group_bits size)) (Lenient size) f is same tt refl
    spells))
    (by_letter (letter == 115) letter 115 _ _ f refl
    (λ is k. size_spelt rest (decimal_within 4 8 rest) SignedVariable f refl k
    (λ size spells same. written letter 115 rest (decimal (group_bits size)) (SignedVariable size) f is same tt refl
    spells))
    (by_letter (letter == 98) letter 98 _ _ f refl
    (λ is k. number_spelt 1 65536 rest (decimal_within 1 65536 rest) Bytes f (omega arith) refl k
    (λ n some most spells same. written letter 98 rest (decimal n) (Bytes n) f is same (some, most) refl spells))
    (by_letter (letter == 99) letter 99 _ _ f refl
    (λ is k. constant_spelt rest (position (λ b. b == 61) rest) f refl k
    (λ n v range spells same. written letter 99 rest (decimal n ++ 61 ∷ decimal v) (Constant n v) f is same range refl
    spells))
    (by_letter (letter == 112) letter 112 _ _ f refl
    (λ is k. number_spelt 1 4096 rest (decimal_within 1 4096 rest) Padding f (omega arith) refl k
    (λ n some most spells same. written letter 112 rest (decimal n) (Padding n) f is same (some, most) refl spells))
    (align_spelt (letter == 97 && (length rest == 0)) letter rest f refl))))))))) h

-- a field that is spelt is in range, and written as its segment
pub segment_spelt : (segment : List ℕ) (f : Field) → field_of segment ≡ Some f → IsSpelt segment f
segment_spelt [] f h = absurd (cc)
segment_spelt (letter ∷ rest) f h = letter_spelt letter rest f h

-- the fields of segments are in range, and written as the segments
abbrev AreSpelt : List (List ℕ) → List Field → Type 0
AreSpelt parts fs = AllByRecursion IsField fs × (map field_text fs ≡ parts)

field_spelt : (k : ℕ) (segment : List ℕ) (others : List (List ℕ)) (o : Option Field)
    (r : Result (List Field) Fault) (fs : List Field) → field_of segment ≡ o
    → ((gs : List Field) → r ≡ Ok gs → AreSpelt others gs) → field_and k o r ≡ Ok fs → AreSpelt (segment ∷ others) fs
field_spelt k segment others None r fs e more h = absurd (cc)
field_spelt k segment others (Some f) (Err x) fs e more h = absurd (cc)
field_spelt k segment others (Some f) (Ok gs) fs e more h =
    let same : f ∷ gs ≡ fs = cc in
    let first = segment_spelt segment f e in
    let rest = more gs refl in
    subst (λ hs. AllByRecursion IsField hs × (map field_text hs ≡ segment ∷ others)) same (
      (first.0, rest.0),
      ap (λ t. t ∷ map field_text gs) first.1 ∙ ap (λ ts. segment ∷ ts) rest.1,
    )

segments_spelt : (k : ℕ) (parts : List (List ℕ)) (fs : List Field) → fields_of k parts ≡ Ok fs → AreSpelt parts fs
segments_spelt k [] fs h = (let same : [] ≡ fs = cc in
    subst (λ gs. AllByRecursion IsField gs × (map field_text gs ≡ [])) same (tt, refl))
segments_spelt k (segment ∷ others) fs h =
    field_spelt k segment others (field_of segment) (fields_of (k + 1) others) fs refl (segments_spelt (k + 1) others) h

layout_spelt : (parts : List (List ℕ)) (many : Bool) (x : Fault) (fields : List Field) → nat_lt 256 (length parts)
    ≡ many → 0 < length parts → (if many then Err x else fields_of 1 parts) ≡ Ok fields → IsLayout fields
    × (map field_text fields ≡ parts)
layout_spelt parts true x fields e some h = absurd (cc)
layout_spelt parts false x fields e some h =
    let p = segments_spelt 1 parts fields h in
    let count : length fields ≡ length parts = sym (length-map fields field_text) ∙ ap length p.1 in
    let few : length parts ≤ 256 = ltb-false 256 (length parts) e in
    (record { some = omega arith; few = omega arith; in_range = All-from_recursion IsField fields p.0 }, p.1)

pub layout_text-layout_of : (text : List ℕ) (fields : List Field) → layout_of text ≡ Ok fields → IsLayout fields
    × (layout_text fields ≡ text)
layout_text-layout_of text fields h =
    let some : 0 < length (segments text) = rw (length-slice_split (λ b. b == 44) text) (omega arith) in
    let p = layout_spelt (segments text) (nat_lt 256 (length (segments text))) (fault 0 TooManyFields) fields refl some
    h in
    (p.0, ap (join_with_byte 44) p.1 ∙ join_with_byte-slice_split 44 text)
