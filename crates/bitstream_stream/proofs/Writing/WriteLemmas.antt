-- The table of write calls.
use Rattle.std.proofs.Common.{◌≡◌, ◌≢◌, ◌⊎◌, inl, inr, subst, ap₂, lt_of_le_of_lt, ℕ, zero, suc, ◌+◌, ◌-◌, ◌%◌, ◌^◌, ◌<◌, ◌≤◌, Bool, true, false, cond, List, [], ◌∷◌, ◌++◌, replicate, Ok, Err, refl, sym, ◌∙◌, ap, arith}
use Rattle.std.specs.Prelude.{ℤ, pos, negsuc}
use Rattle.std.proofs.lemmas.Bool.Decides.{nat_tests}
use Rattle.std.proofs.lemmas.List.{replicate-append-replicate}
use Rattle.bitstream_number.specs.Word.{Order, High, Low, digits, word, signed_word, count_width}
use Rattle.bitstream_number.proofs.WordLemmas.{count_fits}
use Rattle.bitstream_order.proofs.Moving.TakeLemmas.{word-none}
use Rattle.bitstream_count.specs.declared.error.Error.TheVariants.{Checked, NoSignBit}
use Rattle.bitstream_count.specs.Checks.{AcceptsUnsigned, RefusesUnsigned, HoldsSigned, RefusesSigned}
use Rattle.bitstream_count.specs.declared.checked_error.CheckedError.{CheckedError}
use Rattle.bitstream_count.specs.declared.checked_error.CheckedError.TheVariants.{ExcessiveBits, ExcessiveValue}
use Rattle.bitstream_stream.specs.Alignment.{to_boundary}
use Rattle.bitstream_stream.specs.Writing.WriteTable.{unsigned, signed}

-- one bit as a number
pub word-bit : (o : Order) (b : Bool) → word o 1 (cond b 1 0) ≡ b ∷ []
unfolding digits
word-bit High true = refl
word-bit High false = refl
word-bit Low true = refl
word-bit Low false = refl

-- a number that fits is accepted
pub unsigned-fits : (o : Order) (size n v len : ℕ) → n ≤ size → v < 2 ^ n → unsigned o size n v len ≡ Ok (word o n v)
unfolding unsigned
unsigned-fits o size n v len h p = grind (arith, nat_tests)

-- at no bits each number is
pub unsigned-none : (o : Order) (size v len : ℕ) → unsigned o size 0 v len ≡ Ok []
unfolding unsigned
unsigned-none o size v len = grind (arith, nat_tests, word-none)

-- a number is accepted, or why not
pub unsigned-accepts : (o : Order) (size n v len : ℕ) → AcceptsUnsigned size n v → unsigned o size n v len
    ≡ Ok (word o n v)
unfolding unsigned
unsigned-accepts o size zero v len h = grind (arith, nat_tests)
unsigned-accepts o size (suc n) v len h = let wide : suc n ≤ size = h.0 in let fits : v < 2 ^ suc n =
    h.1 (omega arith) in grind (arith, nat_tests)

pub unsigned-fail : (o : Order) (size n v len : ℕ) (error : CheckedError) → RefusesUnsigned size n v error
    → unsigned o size n v len ≡ Err (Checked error)
unfolding unsigned
unsigned-fail o size n v len ExcessiveBits h = grind (arith, nat_tests)
unsigned-fail o size n v len ExcessiveValue h = let wide : n ≤ size = h.0 in let some : 0 < n = h.1 in let misfit :
    2 ^ n ≤ v = h.2 in grind (arith, nat_tests)

pub signed-accepts : (o : Order) (size n : ℕ) (x : ℤ) (len : ℕ) → 0 < n → HoldsSigned size n x → signed o size n x len
    ≡ Ok (signed_word o n x)
unfolding signed
signed-accepts o size n (pos k) len some h = let wide : n ≤ size = h.0 in let fits : k < 2 ^ (n - 1) = h.1 in
    grind (arith, nat_tests)
signed-accepts o size n (negsuc k) len some h = let wide : n ≤ size = h.0 in let fits : k < 2 ^ (n - 1) = h.1 in
    grind (arith, nat_tests)

pub signed-fail : (o : Order) (size n : ℕ) (x : ℤ) (len : ℕ) (error : CheckedError) → 0 < n
    → RefusesSigned size n x error → signed o size n x len ≡ Err (Checked error)
unfolding signed
signed-fail o size n x len ExcessiveBits some h = grind (arith, nat_tests)
signed-fail o size n (pos k) len ExcessiveValue some h = let wide : n ≤ size = h.0 in let misfit : 2 ^ (n - 1) ≤ k =
    h.1 in grind (arith, nat_tests)
signed-fail o size n (negsuc k) len ExcessiveValue some h = let wide : n ≤ size = h.0 in let misfit :
    2 ^ (n - 1) ≤ k = h.1 in grind (arith, nat_tests)

pub signed-none : (o : Order) (size n : ℕ) (x : ℤ) (len : ℕ) → n ≡ 0 → signed o size n x len ≡ Err NoSignBit
unfolding signed
signed-none o size n x len h = grind (arith, nat_tests)

pub unsigned-bit : (o : Order) (b : Bool) (size n len : ℕ) → 1 ≤ size → n ≡ cond b 1 0 → unsigned o size 1 n len
    ≡ Ok (b ∷ [])
unsigned-bit o true size n len h e = ap (λ (v : ℕ). unsigned o size 1 v len) e
    ∙ unsigned-fits o size 1 1 len h (omega arith) ∙ ap Ok (word-bit o true)
unsigned-bit o false size n len h e = ap (λ (v : ℕ). unsigned o size 1 v len) e
    ∙ unsigned-fits o size 1 0 len h (omega arith) ∙ ap Ok (word-bit o false)

pub replicate-split : (i n : ℕ) (b : Bool) → i < n → replicate n b ≡ replicate i b
    ++ ((b ∷ []) ++ replicate (n - (i + 1)) b)
replicate-split i n b h =
    ap (λ (k : ℕ). replicate k b) (let e : n ≡ i + (1 + (n - (i + 1))) = omega arith in e)
    ∙ sym (replicate-append-replicate i (1 + (n - (i + 1))) b)
    ∙ ap (λ (l : List Bool). replicate i b ++ l) (sym (replicate-append-replicate 1 (n - (i + 1)) b))

-- one zero nearer to a multiple of 8
pub to_boundary-step : (n : ℕ) → n % 8 ≢ 0 → to_boundary n ≡ 1 + to_boundary (n + 1)
to_boundary-step n h = omega arith

pub padded : (len : ℕ) → (len + to_boundary len) % 8 ≡ 0
padded len = omega arith

pub none_of : (n : ℕ) → (0 < n → ⊥) → n ≡ 0
none_of n h = omega arith

-- a constant is accepted
pub unsigned-const : (o : Order) (size n v len : ℕ) → n ≤ size → (v < 2 ^ n) ⊎ (n ≡ 0) → unsigned o size n v len
    ≡ Ok (word o n v)
unsigned-const o size n v len h (inl fits) = unsigned-fits o size n v len h fits
unsigned-const o size n v len h (inr none) = unsigned-accepts o size n v len (
  h,
  λ some. absurd (omega (arith, none, some)),
)

-- a count is accepted in the bits of its greatest number
pub unsigned-count : (o : Order) (size max n v w m len : ℕ) → w ≡ count_width m → m ≡ max → w ≤ size → v ≡ n → v ≤ max
    → unsigned o size w v len ≡ Ok (word o (count_width max) n)
unsigned-count o size max n v w m len width same le is bound =
    let e : w ≡ count_width max = width ∙ ap count_width same in
    let fits : v < 2 ^ w = subst (λ (k : ℕ). v < 2 ^ k) (sym e) (lt_of_le_of_lt bound (count_fits max)) in
    unsigned-fits o size w v len le fits ∙ ap₂ (λ (k x : ℕ). Ok (word o k x)) e is
