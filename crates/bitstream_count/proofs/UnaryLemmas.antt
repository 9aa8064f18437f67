-- Unary numbers: no encoding is a prefix of another, and a read returns the number that was written.
use Rattle.std.proofs.Common.{◌≡◌, ℕ, zero, suc, ◌+◌, ◌^◌, ◌<◌, ◌≤◌, Bool, true, false, not, List, [], ◌∷◌, ◌++◌, length, take, replicate, Ok, Err, refl, sym, ap, ◌∙◌, subst, arith, inl, inr, append-nil, append_assoc, length-append}
use Rattle.std.proofs.lemmas.Bool.{cases_lt, lt-ltb, le-ltb}
use Rattle.std.proofs.lemmas.List.{length-replicate, replicate-append-replicate}
use Rattle.bitstream_count.specs.Codec.{Incomplete, Done}
use Rattle.bitstream_count.specs.declared.error.Error.{Error}
use Rattle.bitstream_count.specs.declared.error.Error.TheVariants.{RunTooLong}
use Rattle.bitstream_count.specs.Unary.{unary, lead, read_unary}

pub length-unary : (stop : Bool) (k : ℕ) → length (unary stop k) ≡ k + 1
length-unary stop k = length-append (replicate k (not stop)) (stop ∷ [])
    ∙ ap (λ n. n + 1) (length-replicate k (not stop))

-- a run in parts
pub others-split : (stop : Bool) (a b n : ℕ) → a + b ≡ n → replicate n (not stop) ≡ replicate a (not stop)
    ++ replicate b (not stop)
others-split stop a b n sum = ap (λ k. replicate k (not stop)) (sym sum)
    ∙ sym (replicate-append-replicate a b (not stop))

pub unary-split : (stop : Bool) (a b n : ℕ) → a + b ≡ n → unary stop n ≡ replicate a (not stop) ++ unary stop b
unary-split stop a b n sum = ap (λ l. l ++ stop ∷ []) (others-split stop a b n sum)
    ∙ append_assoc (replicate a (not stop)) (replicate b (not stop)) (stop ∷ [])

-- ---- how long a run is

pub lead-unary : (stop : Bool) (k : ℕ) (rest : List Bool) → lead stop (unary stop k ++ rest) ≡ k
lead-unary true zero rest = refl
lead-unary true (suc k) rest = ap suc (lead-unary true k rest)
lead-unary false zero rest = refl
lead-unary false (suc k) rest = ap suc (lead-unary false k rest)

pub unary_apart : (stop : Bool) (j k : ℕ) (x y : List Bool) → unary stop j ++ x ≡ unary stop k ++ y → j ≡ k
unary_apart stop j k x y e = sym (lead-unary stop j x) ∙ ap (lead stop) e ∙ lead-unary stop k y

pub lead-others : (stop : Bool) (k : ℕ) (rest : List Bool) → lead stop (replicate k (not stop) ++ rest)
    ≡ k + lead stop rest
lead-others true zero rest = omega arith
lead-others true (suc k) rest = omega (arith, lead-others true k rest)
lead-others false zero rest = omega arith
lead-others false (suc k) rest = omega (arith, lead-others false k rest)

pub lead_le : (stop : Bool) (bits : List Bool) → lead stop bits ≤ length bits
lead_le stop [] = omega arith
lead_le true (true ∷ bits) = omega arith
lead_le true (false ∷ bits) = omega (arith, lead_le true bits)
lead_le false (true ∷ bits) = omega (arith, lead_le false bits)
lead_le false (false ∷ bits) = omega arith

-- bits that come before a stop bit
lead_prefix : (stop : Bool) (prefix back : List Bool) → length prefix ≤ lead stop (prefix ++ back) → lead stop prefix
    ≡ length prefix
lead_prefix stop [] back h = refl
lead_prefix true (true ∷ prefix) back h = absurd (omega arith)
lead_prefix true (false ∷ prefix) back h = ap suc (lead_prefix true prefix back (omega arith))
lead_prefix false (true ∷ prefix) back h = ap suc (lead_prefix false prefix back (omega arith))
lead_prefix false (false ∷ prefix) back h = absurd (omega arith)

-- the first digits of a run
pub take_others : (stop : Bool) (n : ℕ) (bits : List Bool) → n ≤ lead stop bits → take n bits ≡ replicate n (not stop)
take_others stop zero bits h = refl
take_others stop (suc n) [] h = absurd (omega arith)
take_others true (suc n) (true ∷ bits) h = absurd (omega arith)
take_others true (suc n) (false ∷ bits) h = ap (λ l. false ∷ l) (take_others true n bits (omega arith))
take_others false (suc n) (true ∷ bits) h = ap (λ l. true ∷ l) (take_others false n bits (omega arith))
take_others false (suc n) (false ∷ bits) h = absurd (omega arith)

-- a run that ends within the bits
pub prefix_is_unary : (stop : Bool) (bits : List Bool) → lead stop bits < length bits → take (suc (lead stop bits)) bits
    ≡ unary stop (lead stop bits)
prefix_is_unary stop [] h = absurd (omega arith)
prefix_is_unary true (true ∷ bits) h = refl
prefix_is_unary true (false ∷ bits) h = ap (λ l. false ∷ l) (prefix_is_unary true bits (omega arith))
prefix_is_unary false (true ∷ bits) h = ap (λ l. true ∷ l) (prefix_is_unary false bits (omega arith))
prefix_is_unary false (false ∷ bits) h = refl

-- ---- reading

-- the digits before the stop bit are incomplete
pub short_prefix : (stop : Bool) (prefix back : List Bool) → length prefix ≤ lead stop (prefix ++ back)
    → length prefix < 2 ^ 32 → read_unary stop prefix ≡ Incomplete
short_prefix stop prefix back none few =
    let all : lead stop prefix ≡ length prefix = lead_prefix stop prefix back none in
    rw (all, lt-ltb (length prefix) (2 ^ 32) few, le-ltb (length prefix) (length prefix) (omega arith)) refl

-- the beginnings of a list, by its length
prefix_length : (prefix : List Bool) (b : Bool) (back bits : List Bool) → bits ≡ prefix ++ b ∷ back
    → length prefix < length bits
prefix_length prefix b back bits is = omega (arith, ap length is ∙ length-append prefix (b ∷ back))

pub begins_others : (stop : Bool) (n : ℕ) (prefix : List Bool) (b : Bool) (back : List Bool) → n ≤ 2 ^ 32
    → replicate n (not stop) ≡ prefix ++ b ∷ back → read_unary stop prefix ≡ Incomplete
begins_others stop n prefix b back le is =
    let all : lead stop (prefix ++ b ∷ back) ≡ n = ap (lead stop) (sym is ∙ sym (append-nil (replicate n (not stop))))
    ∙ lead-others stop n [] ∙ omega arith in
    let less : length prefix < n = omega (
      arith,
      prefix_length prefix b back (replicate n (not stop)) is,
      length-replicate n (not stop),
    ) in
    short_prefix stop prefix (b ∷ back) (omega (arith, all, less)) (omega (arith, less, le))

pub begins_unary : (stop : Bool) (k : ℕ) (prefix : List Bool) (b : Bool) (back : List Bool) → k < 2 ^ 32 → unary stop k
    ≡ prefix ++ b ∷ back → read_unary stop prefix ≡ Incomplete
begins_unary stop k prefix b back small is =
    let all : lead stop (prefix ++ b ∷ back) ≡ k = ap (lead stop) (sym is ∙ sym (append-nil (unary stop k)))
    ∙ lead-unary stop k [] in
    let less : length prefix < k + 1 = omega (arith, prefix_length prefix b back (unary stop k) is, length-unary stop k) in
    short_prefix stop prefix (b ∷ back) (omega (arith, all, less)) (omega (arith, less, small))

-- digits without a stop bit are incomplete
pub others_short : (stop : Bool) (n : ℕ) → n < 2 ^ 32 → read_unary stop (replicate n (not stop)) ≡ Incomplete
others_short stop n few = short_prefix stop (replicate n (not stop)) [] (omega (
  arith,
  length-replicate n (not stop),
  lead-others stop n [],
)) (omega (arith, length-replicate n (not stop), few))

-- 2^32 digits without a stop bit are too long
pub others_long : (stop : Bool) (n : ℕ) (rest : List Bool) → n ≡ 2 ^ 32
    → read_unary stop (replicate n (not stop) ++ rest) ≡ Done (length (replicate n (not stop))) (Err RunTooLong)
others_long stop n rest long =
    let least : 2 ^ 32 ≤ lead stop (replicate n (not stop) ++ rest) = omega (arith, lead-others stop n rest) in
    rw (le-ltb (lead stop (replicate n (not stop) ++ rest)) (2 ^ 32) least, length-replicate n (not stop), long) refl

pub read_unary-unary : (stop : Bool) (k : ℕ) (rest : List Bool) → k < 2 ^ 32 → read_unary stop (unary stop k ++ rest)
    ≡ Done (length (unary stop k)) (Ok k)
read_unary-unary stop k rest small =
    let len : length (unary stop k ++ rest) ≡ (k + 1) + length rest = length-append (unary stop k) rest
    ∙ ap (λ n. n + length rest) (length-unary stop k) in
    let within : k < length (unary stop k ++ rest) = omega (arith, len) in
    rw (
      lead-unary stop k rest,
      lt-ltb k (2 ^ 32) small,
      lt-ltb k (length (unary stop k ++ rest)) within,
      length-unary stop k,
    ) refl

-- ---- what was read

pub unary_read : (stop : Bool) (bits : List Bool) (n k : ℕ) → read_unary stop bits ≡ Done n (Ok k) → (k < 2 ^ 32)
    × (n ≤ length bits) × (take n bits ≡ unary stop k)
unary_read stop bits n k e =
    let r = lead stop bits in
    elim (cases_lt r (2 ^ 32)) [
      | inl small ↦ elim (cases_lt r (length bits)) [
        | inl found ↦
            let taken = rw (lt-ltb r (2 ^ 32) small, lt-ltb r (length bits) found) at e in
            let size : r + 1 ≡ n = cc taken in
            let same : r ≡ k = cc taken in
            let next : suc r ≡ n = omega (arith, size) in (
              omega (arith, same, small),
              omega (arith, size, found),
              subst (λ i. take i bits ≡ unary stop k) next (prefix_is_unary stop bits found ∙ ap (unary stop) same),
            )
        | inr short ↦ absurd (let none = rw (lt-ltb r (2 ^ 32) small, le-ltb r (length bits) short) at e in cc none)
      ]
      | inr long ↦ absurd (let none = rw (le-ltb r (2 ^ 32) long) at e in cc none)
    ]

pub long_read : (stop : Bool) (bits : List Bool) (n : ℕ) (error : Error) → read_unary stop bits ≡ Done n (Err error)
    → (error ≡ RunTooLong) × (n ≡ 2 ^ 32) × (n ≤ length bits) × (take n bits ≡ replicate n (not stop))
long_read stop bits n error e =
    let r = lead stop bits in
    elim (cases_lt r (2 ^ 32)) [
      | inl small ↦ elim (cases_lt r (length bits)) [
        | inl found ↦ absurd (let some = rw (lt-ltb r (2 ^ 32) small, lt-ltb r (length bits) found) at e in cc some)
        | inr short ↦ absurd (let none = rw (lt-ltb r (2 ^ 32) small, le-ltb r (length bits) short) at e in cc none)
      ]
      | inr long ↦
          let taken = rw (le-ltb r (2 ^ 32) long) at e in
          let size : 2 ^ 32 ≡ n = cc taken in
          let same : RunTooLong ≡ error = cc taken in (
            sym same,
            sym size,
            omega (arith, size, long, lead_le stop bits),
            take_others stop n bits (omega (arith, size, long)),
          )
    ]
