-- The bytes of a number, and the number that std makes of bytes.
use Rattle.std.specs.Prelude.{◌≡◌, ℕ, zero, suc, ◌+◌, ◌-◌, ◌*◌, ◌/◌, ◌%◌, ◌^◌, ◌<◌, ◌≤◌, List, [], ◌∷◌, ◌++◌, length, reverse, slice_index, take}
use Rattle.std.specs.Int.{bytes_high_first, byte_at, byte_worth, sum_through}
use Rattle.std.proofs.Common.{refl, ap, sym, ◌∙◌, arith, add-one, length-append, length-take}
use Rattle.std.proofs.Math.Seq.{take-length}
use Rattle.std.proofs.Math.Nat.{pow-suc, add-mul-div_right, mod-eq_of_lt, div-one, add_comm, mul-one}
use Rattle.std.proofs.lemmas.Nat.{div-mul-add, mul-add-lt}
use Rattle.std.proofs.lemmas.List.{take_more, reverse-append, reverse-reverse, length-reverse}
use mathlib.Core.List.{reverse-cons}
use Rattle.bitstream_number.specs.Word.{High, Low, bytes}

-- each number of the list is a byte
abbrev pub AreBytes : List ℕ → Type 0
AreBytes [] = Unit {0}
AreBytes (b ∷ bs) = (b < 256) × AreBytes bs

-- the number whose bytes these are, the highest first
abbrev pub bytes_number : List ℕ → ℕ
bytes_number [] = 0
bytes_number (b ∷ bs) = b * 256 ^ length bs + bytes_number bs

-- ---- the bytes of that number

pow256-pos : (n : ℕ) → 0 < 256 ^ n
pow256-pos zero = omega arith
pow256-pos (suc n) = omega (arith, pow-suc 256 n, pow256-pos n)

byte_is : (i v : ℕ) → byte_at i v ≡ v / 256 ^ i % 256
byte_is zero v = ap (λ m. m % 256) (sym (div-one v))
byte_is (suc i) v = refl

bytes_number-lt : (bs : List ℕ) → AreBytes bs → bytes_number bs < 256 ^ length bs
bytes_number-lt [] h = omega arith
bytes_number-lt (b ∷ bs) h =
    let step : b * 256 ^ length bs + bytes_number bs < 256 ^ length bs * 256 =
    mul-add-lt b (256 ^ length bs) (bytes_number bs) 256 h.0 (bytes_number-lt bs h.1) in
    rw pow-suc step

regroup : (a p t : ℕ) → t + a * (p * 256) ≡ t + (a * 256) * p
regroup a p t = grind arith

mod-more : (t a : ℕ) → (t + a * 256) % 256 ≡ t % 256
mod-more t a = omega arith

-- the n lowest bytes of a number do not depend on its higher bytes
bytes_low : (n a t : ℕ) → bytes_high_first n (t + a * 256 ^ n) ≡ bytes_high_first n t
bytes_low zero a t = refl
bytes_low (suc n) a t =
    let same : t + a * 256 ^ suc n ≡ t + (a * 256) * 256 ^ n = ap (λ p. t + a * p) (pow-suc 256 n)
    ∙ regroup a (256 ^ n) t in
    let d : (t + (a * 256) * 256 ^ n) / 256 ^ n ≡ t / 256 ^ n + a * 256 =
    add-mul-div_right t (a * 256) (pow256-pos n) in
    let e : byte_at n (t + (a * 256) * 256 ^ n) ≡ byte_at n t = byte_is n (t + (a * 256) * 256 ^ n)
    ∙ ap (λ m. m % 256) d ∙ mod-more (t / 256 ^ n) a ∙ sym (byte_is n t) in
    rw same (λ i. e i ∷ bytes_low n (a * 256) t i)

bytes-bytes_number : (bs : List ℕ) → AreBytes bs → bytes_high_first (length bs) (bytes_number bs) ≡ bs
bytes-bytes_number [] h = refl
bytes-bytes_number (b ∷ bs) h =
    let n = length bs in
    let t = bytes_number bs in
    let first : byte_at n (b * 256 ^ n + t) ≡ b = byte_is n (b * 256 ^ n + t)
    ∙ ap (λ m. m % 256) (div-mul-add b (256 ^ n) t (bytes_number-lt bs h.1)) ∙ mod-eq_of_lt h.0 in
    let turn : b * 256 ^ n + t ≡ t + b * 256 ^ n = add_comm _ _ in
    λ i. first i ∷ (ap (bytes_high_first n) turn ∙ bytes_low n b t ∙ bytes-bytes_number bs h.1) i

bytes_back : (n k : ℕ) (bs : List ℕ) → AreBytes bs → length bs ≡ k → n ≡ bytes_number bs → bytes_high_first k n ≡ bs
bytes_back n k bs h l e = ap (bytes_high_first k) e ∙ ap (λ j. bytes_high_first j (bytes_number bs)) (sym l)
    ∙ bytes-bytes_number bs h

-- ---- lists of bytes

AreBytes-push : (bs : List ℕ) (b : ℕ) → AreBytes bs → b < 256 → AreBytes (bs ++ b ∷ [])
AreBytes-push [] b h small = (small, tt)
AreBytes-push (c ∷ bs) b h small = (h.0, AreBytes-push bs b h.1 small)

pub AreBytes-reverse : (bs : List ℕ) → AreBytes bs → AreBytes (reverse bs)
AreBytes-reverse [] h = tt
AreBytes-reverse (b ∷ bs) h = rw (reverse-cons b bs) (AreBytes-push (reverse bs) b (AreBytes-reverse bs h.1) h.0)

pub AreBytes-from : (bs : List ℕ) → ((i : ℕ) → slice_index bs i < 256) → AreBytes bs
AreBytes-from [] h = tt
AreBytes-from (b ∷ bs) h = (h 0, AreBytes-from bs (λ i. h (suc i)))

first_one : (bs : List ℕ) → 0 < length bs → take 1 bs ≡ slice_index bs 0 ∷ []
first_one [] h = absurd (omega arith)
first_one (b ∷ bs) h = refl

next_one : (bs : List ℕ) (k : ℕ) → k < length bs → take (suc k) bs ≡ take k bs ++ slice_index bs k ∷ []
next_one bs k h = rw add-one at (take_more bs k 0 h)

take_all : (bs : List ℕ) (n : ℕ) → length bs ≡ n → take n bs ≡ bs
take_all bs n e = rw (← e) (take-length bs)

-- ---- what std's `from_le_bytes` and `from_be_bytes` add up

low_sum : (bs : List ℕ) (k : ℕ) → k < length bs → sum_through (λ i. byte_worth i (slice_index bs i)) k
    ≡ bytes_number (reverse (take (suc k) bs))
low_sum bs zero h = sym (ap (λ t. bytes_number (reverse t)) (first_one bs h) ∙ omega arith)
low_sum bs (suc k) h =
    let less : k < length bs = omega arith in
    let x = slice_index bs (suc k) in
    let below = reverse (take (suc k) bs) in
    let l : length below ≡ suc k = length-reverse (take (suc k) bs) ∙ simp length-take (omega arith) in
    let next : reverse (take (suc (suc k)) bs) ≡ x ∷ below = ap reverse (next_one bs (suc k) h)
    ∙ reverse-append (take (suc k) bs) (x ∷ []) in
    ap (λ m. m + x * 256 ^ suc k) (low_sum bs k less) ∙ add_comm _ _
    ∙ sym (ap bytes_number next ∙ ap (λ j. x * 256 ^ j + bytes_number below) l)

worth-is : (i b : ℕ) → byte_worth i b ≡ b * 256 ^ i
worth-is zero b = omega arith
worth-is (suc i) b = refl

push_step : (y t x p q : ℕ) → q ≡ p * 256 → y * q + (t * 256 + x) ≡ (y * p + t) * 256 + x
push_step y t x p q e = rw e (grind arith)

bytes_number-push : (xs : List ℕ) (x : ℕ) → bytes_number (xs ++ x ∷ []) ≡ bytes_number xs * 256 + x
bytes_number-push [] x = omega arith
bytes_number-push (y ∷ xs) x =
    let l : length (xs ++ x ∷ []) ≡ suc (length xs) = simp length-append (omega arith) in
    rw l (ap (λ m. y * 256 ^ suc (length xs) + m) (bytes_number-push xs x)
    ∙ push_step y (bytes_number xs) x (256 ^ length xs) (256 ^ suc (length xs)) (pow-suc 256 (length xs)))

sum_step : (s t q w x p : ℕ) → s ≡ t * q → q ≡ p * 256 → w ≡ x * p → s + w ≡ (t * 256 + x) * p
sum_step s t q w x p e f g = rw (e, f, g) (grind arith)

high_sum : (bs : List ℕ) (m k : ℕ) → k ≤ m → k < length bs → sum_through (λ i. byte_worth (m - i) (slice_index bs i)) k
    ≡ bytes_number (take (suc k) bs) * 256 ^ (m - k)
high_sum bs m zero le h =
    let one : bytes_number (take 1 bs) ≡ slice_index bs 0 = ap bytes_number (first_one bs h) ∙ omega arith in
    worth-is (m - 0) (slice_index bs 0) ∙ ap (λ t. t * 256 ^ (m - 0)) (sym one)
high_sum bs m (suc k) le h =
    let less : k < length bs = omega arith in
    let le' : k ≤ m = omega arith in
    let x = slice_index bs (suc k) in
    let t = bytes_number (take (suc k) bs) in
    let p = 256 ^ (m - suc k) in
    let e : m - k ≡ suc (m - suc k) = omega arith in
    let q : 256 ^ (m - k) ≡ p * 256 = ap (λ j. 256 ^ j) e ∙ pow-suc 256 (m - suc k) in
    let next : bytes_number (take (suc (suc k)) bs) ≡ t * 256 + x = ap bytes_number (next_one bs (suc k) h)
    ∙ bytes_number-push (take (suc k) bs) x in
    sum_step _ t (256 ^ (m - k)) _ x p (high_sum bs m k le' less) q (worth-is (m - suc k) x)
    ∙ ap (λ j. j * p) (sym next)

-- ---- bytes that are read and written again, k + 1 of them

pub from_le_bytes_back : (k : ℕ) (bs : List ℕ) (n : ℕ) → length bs ≡ suc k → ((i : ℕ) → slice_index bs i < 256) → n
    ≡ sum_through (λ i. byte_worth i (slice_index bs i)) k → bytes Low (suc k) n ≡ bs
from_le_bytes_back k bs n l small is =
    let less : k < length bs = omega arith in
    let number : n ≡ bytes_number (reverse bs) = is ∙ low_sum bs k less
    ∙ ap (λ t. bytes_number (reverse t)) (take_all bs (suc k) l) in
    ap reverse (bytes_back n (suc k) (reverse bs) (AreBytes-reverse bs (AreBytes-from bs small)) (length-reverse bs
    ∙ l) number) ∙ reverse-reverse bs

pub from_be_bytes_back : (k : ℕ) (bs : List ℕ) (n : ℕ) → length bs ≡ suc k → ((i : ℕ) → slice_index bs i < 256) → n
    ≡ sum_through (λ i. byte_worth (k - i) (slice_index bs i)) k → bytes High (suc k) n ≡ bs
from_be_bytes_back k bs n l small is =
    let less : k < length bs = omega arith in
    let e : k - k ≡ 0 = omega arith in
    let number : n ≡ bytes_number bs = is ∙ high_sum bs k k (omega arith) less
    ∙ ap (λ j. bytes_number (take (suc k) bs) * 256 ^ j) e ∙ mul-one _ ∙ ap bytes_number (take_all bs (suc k) l) in
    bytes_back n (suc k) bs (AreBytes-from bs small) l number
