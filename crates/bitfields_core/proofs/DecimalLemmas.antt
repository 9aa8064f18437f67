use Rattle.std.proofs.Common.{rules, ◌≡◌, ◌-◌, zero, suc, ℕ, ◌+◌, ◌*◌, ◌^◌, ◌<◌, ◌≤◌, List, length, take, get_or, true, false, nat_lt, nat_le, arith, Bool, ap, Result, Ok, Err, refl, sym, ◌∙◌, inl, inr, [], ◌∷◌, ◌++◌, ◌/◌, ◌%◌, lit<, mod-lt, length-append, append-nil, append_assoc, subst, All, None, Some}
use Rattle.std.proofs.Math.Pow.{pow_mono}
use Rattle.std.specs.Prelude.{if◌then◌else◌, ◌&&◌, ◌==◌, ℤ, pos, negsuc}
use Rattle.std.specs.Char.{is_ascii_digit, digit_value}
use Rattle.std.specs.Str.Parse.{AllDigits, digits_value, digits_value_after}
use Rattle.std.specs.List.{list_all}
use Rattle.std.specs.Int.{IsInRange}
use Rattle.std.proofs.lemmas.Grind.{common_steps}
use Rattle.std.proofs.lemmas.Bool.{cases_lt, lt-ltb, le-ltb, ltb-true, leb-true, le-leb, eqb-true, ne_eqb}
use Rattle.std.proofs.lemmas.Str.{digit_value_digit}
use Rattle.std.proofs.lemmas.Int.Digits.{digits_value_more}
use Rattle.bitfields_core.specs.Decimal.{is_decimal, decimal_value, decimal_below, decimal_within, positive, negative, signed_within}
use Rattle.bitfields_core.specs.declared.fault.Reason.{Reason}
use Rattle.bitfields_core.specs.declared.fault.Reason.TheVariants.{ValueMisspelt, ValueDoesNotFit}
use Rattle.std.proofs.lemmas.List.{get_or_append_left}
use Rattle.std.proofs.lemmas.List.Elements.{All-cons}
use Rattle.std.proofs.lemmas.List.Folds.{list_all-append}
use Rattle.std.proofs.lemmas.List.Sums.{AllPass-from_list_all}
use Rattle.std.proofs.lemmas.Fmt.{decimal_by_steps_wide, decimal_step_wide, decimal_digit, decimal_is_IsNumeral_wide}
use Rattle.std.specs.Fmt.{decimal, signed_decimal}
use Rattle.bitstream_io.specs.Word.{FitsSignedBits}
use Rattle.std.proofs.lemmas.Str.Parse.{IsDigitsTest, digit_from_value, numerals_by_value}
use Rattle.bitstream_io.proofs.LeadLemmas.{both}

pub in_range : (c : ℕ) → is_ascii_digit c ≡ true → IsInRange 48 57 c
in_range c e = search rules

pub all_at : (bs : List ℕ) (i : ℕ) → list_all is_ascii_digit bs ≡ true → i < length bs → is_ascii_digit (get_or bs i 0)
    ≡ true
all_at bs i e h = grind (arith, common_steps)

pub digit_at : (bs : List ℕ) (i : ℕ) → is_decimal bs ≡ true → i < length bs → IsInRange 48 57 (get_or bs i 0)
digit_at bs i e h = in_range _ (all_at bs i (grind (arith, common_steps)) h)

pub one_more : (bs : List ℕ) (i d v : ℕ) → is_decimal bs ≡ true → i < length bs → v ≡ decimal_value (take i bs) → d + 48
    ≡ get_or bs i 0 → v * 10 + d ≡ decimal_value (take (i + 1) bs)
one_more bs i d v e h p q =
    let m = digits_value_more 10 bs i h in
    let k = digit_value_digit (get_or bs i 0) (digit_at bs i e h) in
    omega (arith, m, k)

pub too_great : (bs : List ℕ) (limit : ℕ) → is_decimal bs ≡ true → limit ≤ decimal_value bs → Err ValueDoesNotFit
    ≡ decimal_below limit bs
too_great bs limit e h = rw e (rw (le-ltb (decimal_value bs) limit h) refl)

checked_below : Bool → ℕ → ℕ → Result ℕ Reason
checked_below d v limit = if d then (if nat_lt v limit then Ok v else Err ValueDoesNotFit) else Err ValueMisspelt

wider_at : (d : Bool) (v limit more : ℕ) (e : Reason) → limit ≤ more → checked_below d v more ≡ Err e
    → checked_below d v limit ≡ Err e
unfolding checked_below
wider_at false v limit more e h k = k
wider_at true v limit more e h k =
    elim (cases_lt v more) [
      | inl low ↦ (let no : Ok v ≡ Err e = rw (lt-ltb v more low) at k in cc)
      | inr high ↦ rw (le-ltb v limit (omega arith)) (rw (le-ltb v more high) at k)
    ]

pub wider : (text : List ℕ) (width : ℕ) (e : Reason) → width ≤ 128 → decimal_below (2 ^ 128) text ≡ Err e
    → decimal_below (2 ^ width) text ≡ Err e
unfolding checked_below
wider text width e h k = wider_at (is_decimal text) (decimal_value text) (2 ^ width) (2 ^ 128) e (pow_mono h) k

-- ---- the decimal that is printed

-- ds are digits, the first of them 0 only where n is 0
record Spells (n : ℕ) (ds : List ℕ) : Type 0 where
  digits : list_all is_ascii_digit ds ≡ true
  some : 0 < length ds
  leading : 0 < n → 48 < get_or ds 0 0
  single : n < 1 → length ds ≡ 1

is_ascii_digit-of : (d : ℕ) → d < 10 → is_ascii_digit (48 + d) ≡ true
is_ascii_digit-of d h = grind (arith, common_steps)

Spells-one : (n : ℕ) → n < 10 → Spells n ((48 + n) ∷ [])
Spells-one n h = record {
  digits = rw (is_ascii_digit-of n h) refl;
  some = lit< tt;
  leading = λ p. omega arith;
  single = λ p. refl;
}

Spells-more : (n : ℕ) (ds : List ℕ) → 10 ≤ n → Spells (n / 10) ds → Spells n (ds ++ (48 + n % 10) ∷ [])
Spells-more n ds h s =
    let low : n % 10 < 10 = mod-lt n (lit< tt) in
    let last : list_all is_ascii_digit ((48 + n % 10) ∷ []) ≡ true = rw (is_ascii_digit-of (n % 10) low) refl in
    let many : 0 < n / 10 = omega arith in
    record {
      digits = list_all-append is_ascii_digit ds ((48 + n % 10) ∷ [])
          ∙ ap (λ b. b && list_all is_ascii_digit ((48 + n % 10) ∷ [])) s.digits ∙ last;
      some = rw length-append (omega (arith, s.some));
      leading = λ p. subst (λ x. 48 < x) (sym (get_or_append_left ds ((48 + n % 10) ∷ []) 0 0 s.some)) (s.leading many);
      single = λ p. absurd (omega arith);
    }

Spells-decimal : (n : ℕ) → n < 10 ^ 64 → Spells n (decimal n)
Spells-decimal n h = decimal_by_steps_wide Spells Spells-one Spells-more n h

is_decimal-of : (n : ℕ) (ds : List ℕ) → Spells n ds → is_decimal ds ≡ true
is_decimal-of n ds s = elim (cases_lt 0 n) [
  | inl some ↦ (let first : 48 < get_or ds 0 0 = s.leading some in let nonempty = s.some in let all = s.digits in
      grind (arith, common_steps))
  | inr none ↦ (let one : length ds ≡ 1 = s.single (omega arith) in let all = s.digits in grind (arith, common_steps))
]

-- what is printed of a number is a decimal
pub is_decimal-decimal : (n : ℕ) → n < 10 ^ 64 → is_decimal (decimal n) ≡ true
is_decimal-decimal n h = is_decimal-of n (decimal n) (Spells-decimal n h)

-- and it spells that number
pub decimal_value-decimal : (n : ℕ) → n < 10 ^ 64 → decimal_value (decimal n) ≡ n
decimal_value-decimal n h = (decimal_is_IsNumeral_wide n h).1

differs : (b c : ℕ) → is_ascii_digit b ≡ true → c < 48 → (b == c) ≡ false
differs b c e h =
    let r = in_range b e in
    grind (arith, common_steps)

differs_above : (b c : ℕ) → is_ascii_digit b ≡ true → 57 < c → (b == c) ≡ false
differs_above b c e h =
    let r = in_range b e in
    grind (arith, common_steps)

-- what no digit is does not stand in it
lacks_by : (c n : ℕ) → ((b : ℕ) → is_ascii_digit b ≡ true → (b == c) ≡ false) → n < 10 ^ 64
    → All (λ b. (b == c) ≡ false) (decimal n)
lacks_by c n other h =
    let digits = AllPass-from_list_all is_ascii_digit (decimal n) (Spells-decimal n h).digits in
    λ k d below. other (get_or (decimal n) k d) (digits k d below)

-- nor does a separator below the digits, nor one above them
pub decimal_lacks : (c n : ℕ) → c < 48 → n < 10 ^ 64 → All (λ b. (b == c) ≡ false) (decimal n)
decimal_lacks c n low h = lacks_by c n (λ b e. differs b c e low) h

pub decimal_lacks_above : (c n : ℕ) → 57 < c → n < 10 ^ 64 → All (λ b. (b == c) ≡ false) (decimal n)
decimal_lacks_above c n high h = lacks_by c n (λ b e. differs_above b c e high) h

pub decimal_within-decimal : (low high n : ℕ) → n < 10 ^ 64 → low ≤ n → n ≤ high → decimal_within low high (decimal n)
    ≡ Some n
decimal_within-decimal low high n h a b =
    rw (is_decimal-decimal n h, decimal_value-decimal n h, le-leb low n a, le-leb n high b) refl

list_all-IsDigitsTest : IsDigitsTest (λ ds. list_all is_ascii_digit ds ≡ true)
list_all-IsDigitsTest = record {
  empty = refl;
  parts = λ c cs h. (let p = both (is_ascii_digit c) (list_all is_ascii_digit cs) h in (in_range c p.0, p.1));
  more = λ c cs h k. (let first : is_ascii_digit c ≡ true = grind (arith, common_steps) in rw first k);
}

le-digits_value_after : (n : ℕ) (ds : List ℕ) → n ≤ digits_value_after 10 n ds
le-digits_value_after n [] = omega arith
le-digits_value_after n (c ∷ cs) = omega (arith, le-digits_value_after (n * 10 + digit_value c) cs)

decimal_value_after : (n : ℕ) (ds : List ℕ) → 0 < n → AllDigits 10 ds → digits_value_after 10 n ds < 10 ^ 64
    → decimal (digits_value_after 10 n ds) ≡ decimal n ++ ds
decimal_value_after n [] some d small = sym (append-nil (decimal n))
decimal_value_after n (c ∷ cs) some d small =
    let m : ℕ = n * 10 + digit_value c in
    let k = digit_value_digit c (digit_from_value c d.0) in
    let prefix : m / 10 ≡ n = omega (arith, d.0) in
    let end : 48 + m % 10 ≡ c = omega (arith, d.0) in
    decimal_value_after m cs (omega arith) d.1 small
    ∙ ap (λ x. x ++ cs) (decimal_step_wide m (omega arith) (omega (arith, le-digits_value_after m cs))
    ∙ (λ i. decimal (prefix i) ++ (end i ∷ [])))
    ∙ append_assoc (decimal n) (c ∷ []) cs

decimal_value_digits : (ds : List ℕ) → AllDigits 10 ds → 0 < length ds → (get_or ds 0 0 ≡ 48 → length ds ≡ 1)
    → digits_value 10 ds < 10 ^ 64 → decimal (digits_value 10 ds) ≡ ds
decimal_value_digits [] d some lead small = absurd (omega arith)
decimal_value_digits (c ∷ []) d some lead small =
    let k = digit_value_digit c (digit_from_value c d.0) in
    decimal_digit (0 * 10 + digit_value c) (omega (arith, d.0)) ∙ ap (λ x. x ∷ []) (omega arith)
decimal_value_digits (c ∷ e ∷ cs) d some lead small =
    let k = digit_value_digit c (digit_from_value c d.0) in
    let no : c ≡ 48 → ⊥ = λ z. omega (arith, lead z) in
    let is : 48 + (0 * 10 + digit_value c) ≡ c = omega arith in
    decimal_value_after (0 * 10 + digit_value c) (e ∷ cs) (omega arith) d.1 small
    ∙ ap (λ x. x ++ (e ∷ cs)) (decimal_digit (0 * 10 + digit_value c) (omega (arith, d.0)) ∙ ap (λ x. x ∷ []) is)

-- a decimal is what is printed of its number
pub decimal-decimal_value : (text : List ℕ) → is_decimal text ≡ true → decimal_value text < 10 ^ 64
    → decimal (decimal_value text) ≡ text
decimal-decimal_value text e h =
    let some : 0 < length text = grind (arith, common_steps) in
    let digits : list_all is_ascii_digit text ≡ true = grind (arith, common_steps) in
    let leading : get_or text 0 0 ≡ 48 → length text ≡ 1 = λ z. grind (arith, common_steps) in
    let own = numerals_by_value (λ ds. list_all is_ascii_digit ds ≡ true) list_all-IsDigitsTest in
    decimal_value_digits text (own.to text digits) some leading h

within_parts : (d low high : Bool) (v n : ℕ) → (if d && low && high then Some v else None) ≡ Some n → (d ≡ true)
    × (low ≡ true) × (high ≡ true) × (v ≡ n)
within_parts true true true v n h = (refl, refl, refl, cc)
within_parts true true false v n h = absurd (cc)
within_parts true false high v n h = absurd (cc)
within_parts false low high v n h = absurd (cc)

-- a text spells a number in a range only as it is printed
pub decimal-of_within : (low high n : ℕ) (text : List ℕ) → high < 10 ^ 64 → decimal_within low high text ≡ Some n
    → (low ≤ n) × (n ≤ high) × (decimal n ≡ text)
decimal-of_within low high n text small h =
    let p = within_parts (is_decimal text) (nat_le low (decimal_value text)) (nat_le (decimal_value text) high)
    (decimal_value text) n h in
    let from = leb-true low (decimal_value text) p.1 in
    let to = leb-true (decimal_value text) high p.2 in
    let same = p.3 in
    let below : decimal_value text < 10 ^ 64 = omega arith in
    (omega arith, omega arith, ap decimal (sym p.3) ∙ decimal-decimal_value text p.0 below)

-- ---- a number below a limit

pub below_parts : (d l : Bool) (v n : ℕ) → (let r : Result ℕ Reason =
    if d then (if l then Ok v else Err ValueDoesNotFit) else Err ValueMisspelt in r) ≡ Ok n → (d ≡ true) × (l ≡ true)
    × (v ≡ n)
below_parts true true v n h = (refl, refl, cc)
below_parts true false v n h = absurd (cc)
below_parts false l v n h = absurd (cc)

pub decimal_below-lt : (limit n : ℕ) (text : List ℕ) → decimal_below limit text ≡ Ok n → n < limit
decimal_below-lt limit n text h =
    let p = below_parts (is_decimal text) (nat_lt (decimal_value text) limit) (decimal_value text) n h in
    let low = ltb-true (decimal_value text) limit p.1 in
    let same = p.2 in
    omega arith

pub decimal_below-decimal : (limit v : ℕ) → v < 10 ^ 64 → v < limit → decimal_below limit (decimal v) ≡ Ok v
decimal_below-decimal limit v small h = rw (
  is_decimal-decimal v small,
  decimal_value-decimal v small,
  lt-ltb v limit h,
) refl

pub decimal-of_below : (limit v : ℕ) (text : List ℕ) → limit ≤ 10 ^ 64 → decimal_below limit text ≡ Ok v → decimal v
    ≡ text
decimal-of_below limit v text small h =
    let p = below_parts (is_decimal text) (nat_lt (decimal_value text) limit) (decimal_value text) v h in
    let below = ltb-true (decimal_value text) limit p.1 in
    ap decimal (sym p.2) ∙ decimal-decimal_value text p.0 (omega arith)

-- the limit of n bits has fewer digits than those that are read back
pub limit_small : (n : ℕ) → n ≤ 128 → 2 ^ n ≤ 10 ^ 64
limit_small n h =
    let top : 2 ^ n ≤ 2 ^ 128 = pow_mono h in
    let wide : 2 ^ 128 < 10 ^ 64 = lit< tt in
    omega (arith, top, wide)

pub half_small : (n : ℕ) → n ≤ 128 → 2 ^ (n - 1) ≤ 2 ^ 127
half_small n h = (let le : n - 1 ≤ 127 = omega arith in pow_mono le)

top_small : 2 ^ 127 + 1 < 10 ^ 64
top_small = lit< tt

-- ---- signed numbers

pub half_below : (n v : ℕ) (text : List ℕ) → n ≤ 128 → decimal_below (2 ^ (n - 1)) text ≡ Ok v → v < 2 ^ 127
half_below n v text h e = omega (arith, half_small n h, decimal_below-lt (2 ^ (n - 1)) v text e)

pub up_to_half : (n greatest v : ℕ) (text : List ℕ) → n ≤ 128 → greatest ≡ 2 ^ (n - 1) → Ok v
    ≡ decimal_below (greatest + 1) text → v ≤ 2 ^ 127
up_to_half n greatest v text h is e = omega (arith, is, half_small n h, decimal_below-lt (greatest + 1) v text (sym e))

-- a text of digits has no sign
signed_within-plain : (n : ℕ) (text : List ℕ) → is_decimal text ≡ true → signed_within n text
    ≡ positive (decimal_below (2 ^ (n - 1)) text)
signed_within-plain n [] e = absurd (cc)
signed_within-plain n (c ∷ rest) e =
    let plain : (c == 45) ≡ false = differs c 45 (all_at (c ∷ rest) 0 (grind (arith, common_steps)) (omega arith))
    (lit< tt) in
    rw plain refl

pub signed_within-signed_decimal : (n : ℕ) (x : ℤ) → 1 ≤ n → n ≤ 128 → FitsSignedBits n x
    → signed_within n (signed_decimal x) ≡ Ok x
signed_within-signed_decimal n (pos v) some most h =
    let small : v < 10 ^ 64 = omega (arith, h, half_small n most, top_small) in
    signed_within-plain n (decimal v) (is_decimal-decimal v small)
    ∙ ap positive (decimal_below-decimal (2 ^ (n - 1)) v small h)
signed_within-signed_decimal n (negsuc m) some most h =
    let small : suc m < 10 ^ 64 = omega (arith, h, half_small n most, top_small) in
    ap negative (decimal_below-decimal (2 ^ (n - 1) + 1) (suc m) small (omega (arith, h)))

pub signed_decimal-lacks : (c n : ℕ) (x : ℤ) → c < 45 → n ≤ 128 → FitsSignedBits n x
    → All (λ b. (b == c) ≡ false) (signed_decimal x)
signed_decimal-lacks c n (pos v) low most h = decimal_lacks c v (omega arith) (omega (
  arith,
  h,
  half_small n most,
  top_small,
))
signed_decimal-lacks c n (negsuc m) low most h =
    All-cons (λ b. (b == c) ≡ false) 45 (decimal (suc m)) (ne_eqb 45 c (λ e. omega arith))
    (decimal_lacks c (suc m) (omega arith) (omega (arith, h, half_small n most, top_small)))

-- the signed number that a text spells fits, and is printed as the text
abbrev IsSigned : ℕ → List ℕ → ℤ → Type 0
IsSigned n text x = FitsSignedBits n x × (n ≤ 128 → signed_decimal x ≡ text)

positive_of : (n : ℕ) (text : List ℕ) (r : Result ℕ Reason) (x : ℤ) → decimal_below (2 ^ (n - 1)) text ≡ r → positive r
    ≡ Ok x → IsSigned n text x
positive_of n text (Err why) x e h = absurd (cc)
positive_of n text (Ok v) x e h =
    let same : pos v ≡ x = cc in
    subst (IsSigned n text) same (
      decimal_below-lt (2 ^ (n - 1)) v text e,
      λ most. decimal-of_below (2 ^ (n - 1)) v text (omega (arith, half_small n most, top_small)) e,
    )

negative_of : (n : ℕ) (rest : List ℕ) (r : Result ℕ Reason) (x : ℤ) → decimal_below (2 ^ (n - 1) + 1) rest ≡ r
    → negative r ≡ Ok x → IsSigned n (45 ∷ rest) x
negative_of n rest (Err why) x e h = absurd (cc)
negative_of n rest (Ok zero) x e h = absurd (cc)
negative_of n rest (Ok (suc m)) x e h =
    let same : negsuc m ≡ x = cc in
    let below : suc m < 2 ^ (n - 1) + 1 = decimal_below-lt (2 ^ (n - 1) + 1) (suc m) rest e in
    let fits : m < 2 ^ (n - 1) = omega arith in
    subst (IsSigned n (45 ∷ rest)) same (
      fits,
      λ most. ap (λ t. 45 ∷ t)
          (decimal-of_below (2 ^ (n - 1) + 1) (suc m) rest (omega (arith, half_small n most, top_small)) e),
    )

signed_by : (b : Bool) (n c : ℕ) (rest : List ℕ) (x : ℤ) → (c == 45) ≡ b
    → (if b then negative (decimal_below (2 ^ (n - 1) + 1) rest) else positive (decimal_below (2 ^ (n - 1)) (c ∷ rest)))
    ≡ Ok x → IsSigned n (c ∷ rest) x
signed_by true n c rest x e h =
    subst (λ (d : ℕ). IsSigned n (d ∷ rest) x) (sym (eqb-true c 45 e))
    (negative_of n rest (decimal_below (2 ^ (n - 1) + 1) rest) x refl h)
signed_by false n c rest x e h = positive_of n (c ∷ rest) (decimal_below (2 ^ (n - 1)) (c ∷ rest)) x refl h

pub signed_decimal-of_within : (n : ℕ) (text : List ℕ) (x : ℤ) → signed_within n text ≡ Ok x → FitsSignedBits n x
    × (n ≤ 128 → signed_decimal x ≡ text)
signed_decimal-of_within n [] x h = absurd (cc)
signed_decimal-of_within n (c ∷ rest) x h = signed_by (c == 45) n c rest x refl h
