-- Bytes as decimals with single spaces between: what such a text spells, and what is printed of bytes.
use Rattle.std.specs.Prelude.{Bool, true, false, ◌&&◌, ◌==◌, if◌then◌else◌, map}
use Rattle.std.specs.List.{join_with_byte, list_all, flat_map, All, AllByRecursion}
use Rattle.std.specs.Fmt.{decimal}
use Rattle.std.proofs.Common.{◌≡◌, ℕ, ◌+◌, ◌<◌, ◌≤◌, ◌^◌, List, [], ◌∷◌, ◌++◌, length, take, get_or, nat_lt, Result, Ok, Err, refl, sym, ap, subst, ◌∙◌, arith, lit<, append-nil}
use Rattle.std.proofs.lemmas.Bool.{lt-ltb, ltb-true, eqb-true, ne_eqb}
use Rattle.std.proofs.lemmas.Grind.{common_steps}
use Rattle.std.proofs.lemmas.List.{length-map, map_more, take_all}
use Rattle.std.proofs.lemmas.List.Elements.{All-append, All-cons, All-nil, All-from_recursion, recursion_from_All}
use Rattle.std.proofs.lemmas.List.Folds.{list_all_at, list_all_more}
use Rattle.std.proofs.lemmas.List.Splits.{slice_split_none, slice_split_at, join_with_byte-slice_split}
use Rattle.bitfields_core.specs.declared.fault.Reason.{Reason}
use Rattle.bitfields_core.specs.declared.fault.Reason.TheVariants.{ValueMisspelt, ValueDoesNotFit}
use Rattle.bitfields_core.specs.Decimal.{is_decimal, is_byte, decimal_value, decimal_below, split_spaces, bytes_of_parts, bytes_within, bytes_text}
use Rattle.bitfields_core.proofs.DecimalLemmas.{below_parts, decimal_lacks, decimal_value-decimal, decimal-decimal_value, is_decimal-decimal}
use Rattle.bitstream_io.proofs.LeadLemmas.{both}

small : (b : ℕ) → b < 256 → b < 10 ^ 64
small b h =
    let top : 256 < 10 ^ 64 = lit< tt in
    omega (arith, top)

-- ---- the text of bytes spells these bytes

lacks_space : (b : ℕ) → b < 256 → All (λ c. (c == 32) ≡ false) (decimal b)
lacks_space b h = decimal_lacks 32 b (lit< tt) (small b h)

spaced-bytes_text : (b : ℕ) (bs : List ℕ) → AllByRecursion (λ c. c < 256) (b ∷ bs) → split_spaces (bytes_text (b ∷ bs))
    ≡ map decimal (b ∷ bs)
spaced-bytes_text b [] h = slice_split_none (λ c. c == 32) (decimal b) (lacks_space b h.0)
spaced-bytes_text b (c ∷ cs) h =
    slice_split_at (λ c. c == 32) (decimal b) 32 (bytes_text (c ∷ cs)) (lacks_space b h.0) refl
    ∙ ap (λ (rest : List (List ℕ)). decimal b ∷ rest) (spaced-bytes_text c cs h.1)

all_decimals : (bs : List ℕ) → AllByRecursion (λ b. b < 256) bs → list_all is_decimal (map decimal bs) ≡ true
all_decimals [] h = refl
all_decimals (b ∷ bs) h = rw (is_decimal-decimal b (small b h.0)) (all_decimals bs h.1)

all_bytes : (bs : List ℕ) → AllByRecursion (λ b. b < 256) bs → list_all is_byte (map decimal bs) ≡ true
all_bytes [] h = refl
all_bytes (b ∷ bs) h = rw (decimal_value-decimal b (small b h.0), lt-ltb b 256 h.0) (all_bytes bs h.1)

values_back : (bs : List ℕ) → AllByRecursion (λ b. b < 256) bs → map decimal_value (map decimal bs) ≡ bs
values_back [] h = refl
values_back (b ∷ bs) h = rw (decimal_value-decimal b (small b h.0)) (ap (λ t. b ∷ t) (values_back bs h.1))

same_number : (a b : ℕ) → a ≡ b → (a == b) ≡ true
same_number a b e = grind (arith, common_steps)

parts_spell : (n : ℕ) (parts : List (List ℕ)) (bytes : List ℕ) → length parts ≡ n → list_all is_decimal parts ≡ true
    → list_all is_byte parts ≡ true → map decimal_value parts ≡ bytes → bytes_of_parts n parts ≡ Ok bytes
parts_spell n parts bytes size d b values = rw (same_number (length parts) n size, d, b) (ap Ok values)

pub bytes_within-bytes_text : (n : ℕ) (bytes : List ℕ) → 1 ≤ n → length bytes ≡ n → All (λ b. b < 256) bytes
    → bytes_within n (bytes_text bytes) ≡ Ok bytes
bytes_within-bytes_text n [] some size h = absurd (omega arith)
bytes_within-bytes_text n (b ∷ bs) some size h =
    let each = recursion_from_All (λ c. c < 256) (b ∷ bs) h in
    ap (bytes_of_parts n) (spaced-bytes_text b bs each)
    ∙ parts_spell n (map decimal (b ∷ bs)) (b ∷ bs) (length-map (b ∷ bs) decimal ∙ size) (all_decimals (b ∷ bs) each)
    (all_bytes (b ∷ bs) each) (values_back (b ∷ bs) each)

-- ---- no other text does

parts_by : (l d b : Bool) (values bytes : List ℕ) → (let r : Result (List ℕ) Reason =
    if l && d then (if b then Ok values else Err ValueDoesNotFit) else Err ValueMisspelt in r) ≡ Ok bytes → (l ≡ true)
    × (d ≡ true) × (b ≡ true) × (values ≡ bytes)
parts_by true true true values bytes h = (refl, refl, refl, cc)
parts_by true true false values bytes h = absurd (cc)
parts_by true false b values bytes h = absurd (cc)
parts_by false d b values bytes h = absurd (cc)

texts_back : (parts : List (List ℕ)) → list_all is_decimal parts ≡ true → list_all is_byte parts ≡ true
    → (map decimal (map decimal_value parts) ≡ parts) × AllByRecursion (λ b. b < 256) (map decimal_value parts)
texts_back [] d b = (refl, tt)
texts_back (part ∷ parts) d b =
    let ds = both (is_decimal part) (list_all is_decimal parts) d in
    let bs = both (is_byte part) (list_all is_byte parts) b in
    let low : decimal_value part < 256 = ltb-true (decimal_value part) 256 bs.0 in
    let first = decimal-decimal_value part ds.0 (small (decimal_value part) low) in
    let rest = texts_back parts ds.1 bs.1 in
    (rw first (ap (λ (t : List (List ℕ)). part ∷ t) rest.0), (low, rest.1))

-- the bytes that a text spells are n bytes, and it is what is printed of them
pub bytes_within-Ok : (n : ℕ) (text bytes : List ℕ) → bytes_within n text ≡ Ok bytes → (length bytes ≡ n)
    × All (λ b. b < 256) bytes × (bytes_text bytes ≡ text)
bytes_within-Ok n text bytes h =
    let parts = split_spaces text in
    let p = parts_by (length parts == n) (list_all is_decimal parts) (list_all is_byte parts) (map decimal_value parts)
    bytes h in
    let t = texts_back parts p.1 p.2 in
    let count : length (map decimal_value parts) ≡ n = length-map parts decimal_value ∙ eqb-true (length parts) n p.0
    in (
      ap length (sym p.3) ∙ count,
      subst (λ bs. All (λ b. b < 256) bs) p.3 (All-from_recursion (λ b. b < 256) (map decimal_value parts) t.1),
      ap bytes_text (sym p.3) ∙ ap (join_with_byte 32) t.0 ∙ join_with_byte-slice_split 32 text,
    )

-- ---- what is printed of bytes

-- a separator that is no space does not stand in it
bytes_text_lacks : (c : ℕ) (bytes : List ℕ) → c < 32 → AllByRecursion (λ b. b < 256) bytes
    → All (λ b. (b == c) ≡ false) (bytes_text bytes)
bytes_text_lacks c [] low h = All-nil (λ b. (b == c) ≡ false)
bytes_text_lacks c (b ∷ []) low h = decimal_lacks c b (omega arith) (small b h.0)
bytes_text_lacks c (b ∷ d ∷ ds) low h =
    All-append (λ b. (b == c) ≡ false) (decimal b) (32 ∷ bytes_text (d ∷ ds))
    (decimal_lacks c b (omega arith) (small b h.0))
    (All-cons (λ b. (b == c) ≡ false) 32 (bytes_text (d ∷ ds)) (ne_eqb 32 c (λ e. omega arith))
    (bytes_text_lacks c (d ∷ ds) low h.1))

pub bytes_text-lacks : (c : ℕ) (bytes : List ℕ) → c < 32 → All (λ b. b < 256) bytes
    → All (λ b. (b == c) ≡ false) (bytes_text bytes)
bytes_text-lacks c bytes low h = bytes_text_lacks c bytes low (recursion_from_All (λ b. b < 256) bytes h)

-- the first decimal, and a space and a decimal for each other
pub bytes_text-first : (b : ℕ) (bs : List ℕ) → bytes_text (b ∷ bs) ≡ decimal b ++ flat_map (λ c. 32 ∷ decimal c) bs
bytes_text-first b [] = sym (append-nil (decimal b))
bytes_text-first b (c ∷ cs) = ap (λ t. decimal b ++ (32 ∷ t)) (bytes_text-first c cs)

-- ---- part by part

-- the first i parts are bytes, and these are their numbers
pub record IsRead (parts : List (List ℕ)) (i : ℕ) (bytes : List ℕ) : Type 0 where
  pub values : bytes ≡ map decimal_value (take i parts)
  pub fit : list_all is_byte (take i parts) ≡ true

pub IsRead-more : (parts : List (List ℕ)) (i : ℕ) (d : List ℕ) (bytes : List ℕ) (v : ℕ) → i < length parts
    → IsRead parts i bytes → decimal_below 256 (get_or parts i d) ≡ Ok v → IsRead parts (i + 1) (bytes ++ v ∷ [])
IsRead-more parts i d bytes v h known is =
    let part = get_or parts i d in
    let p = below_parts (is_decimal part) (nat_lt (decimal_value part) 256) (decimal_value part) v is in
    record {
      values = ap (λ t. t ++ v ∷ []) known.values ∙ ap (λ x. map decimal_value (take i parts) ++ x ∷ []) (sym p.2)
          ∙ sym (map_more decimal_value parts i d h);
      fit = list_all_more is_byte parts i d h ∙ rw (known.fit, p.1) refl;
    }

pub IsRead-end : (n : ℕ) (parts : List (List ℕ)) (i : ℕ) (bytes : List ℕ) → length parts ≡ n → length parts ≤ i
    → list_all is_decimal parts ≡ true → IsRead parts i bytes → bytes_of_parts n parts ≡ Ok bytes
IsRead-end n parts i bytes size end d known =
    let whole = take_all i parts end in
    parts_spell n parts bytes size d (ap (list_all is_byte) (sym whole) ∙ known.fit)
    (ap (map decimal_value) (sym whole) ∙ sym known.values)

all_at : (parts : List (List ℕ)) (i : ℕ) (d : List ℕ) → list_all is_decimal parts ≡ true → i < length parts
    → is_decimal (get_or parts i d) ≡ true
all_at parts i d e h = grind (arith, common_steps)

no_byte : (d b : Bool) (v : ℕ) (e : Reason) → d ≡ true → (let r : Result ℕ Reason =
    if d then (if b then Ok v else Err ValueDoesNotFit) else Err ValueMisspelt in r) ≡ Err e → (b ≡ false)
    × (ValueDoesNotFit ≡ e)
no_byte true true v e is h = absurd (cc)
no_byte true false v e is h = (refl, cc)
no_byte false b v e is h = absurd (cc)

-- a part that is no byte
pub IsRead-bad : (n : ℕ) (parts : List (List ℕ)) (i : ℕ) (d : List ℕ) (e : Reason) → length parts ≡ n
    → i < length parts → list_all is_decimal parts ≡ true → decimal_below 256 (get_or parts i d) ≡ Err e
    → bytes_of_parts n parts ≡ Err e
IsRead-bad n parts i d e size h all is =
    let part = get_or parts i d in
    let p = no_byte (is_decimal part) (nat_lt (decimal_value part) 256) (decimal_value part) e (all_at parts i d all h)
    is in
    rw (same_number (length parts) n size, all, list_all_at is_byte parts i d h p.0) (ap Err p.1)
