-- A word that is put in place of bits, byte by byte.
use Rattle.std.proofs.Common.{◌≡◌, ◌∙◌, ◌+◌, ◌-◌, ◌*◌, ◌/◌, ◌%◌, ◌^◌, ◌<◌, ◌≤◌, ◌++◌, ◌∷◌, [], zero, suc, ℕ, Bool, true, List, length, take, drop, get_or, set, replicate, reverse, sym, ap, subst, arith, append_assoc, length-append, append-nil}
use Rattle.std.proofs.Math.Nat.{pow-suc}
use Rattle.std.proofs.lemmas.List.{drop-append-le, drop-drop, drop-set, drop_all, drop_at, drop_more, length-drop, length-take-le, take-append-drop, take-append-le, take-set, take_all, take_at}
use Rattle.std.proofs.lemmas.Nat.{mod_below, mul-add-lt, pow-add, pow_pos}
use lib.Seq.{take-add}
use Rattle.bitstream_io.specs.Callers.{Order, High, Low, bits, word}
use Rattle.bitstream_io.proofs.WordLemmas.{bits-append, length-bits, length-word, word-add, word_cat, word-mod}
use Rattle.bitstream_io.specs.Parts.{piece, put_number}
use Rattle.bitstream_io.proofs.TakeLemmas.{word-none}
use Rattle.bitstream_io.proofs.WriteLemmas.{word-bit}
use Rattle.bitstream_io.proofs.BytesWritten.{reverse-replicate}
use Rattle.bits_c.specs.Writer.{replaced}

-- two words, one after the other, as one number
pub word-put : (o : Order) (acc done part n : ℕ) → acc < 2 ^ done → part < 2 ^ n
    → word o (done + n) (put_number o acc done part n) ≡ word o done acc ++ word o n part
word-put High acc done part n first second = word_cat High done n acc part second
word-put Low acc done part n first second =
    let size : done + n ≡ n + done = omega arith in
    let sum : acc + part * 2 ^ done ≡ part * 2 ^ done + acc = omega arith in
    ap (λ (k : ℕ). word Low k (acc + part * 2 ^ done)) size ∙ ap (word Low (n + done)) sum
    ∙ word_cat Low n done part acc first

-- the middle of three words
middle : (x y z : List Bool) (at k : ℕ) → length x ≡ at → length y ≡ k → take k (drop at (x ++ (y ++ z))) ≡ y
middle x y z at k first second = ap (take k) (drop_at x (y ++ z) at first) ∙ take_at y z k second

-- k bits of a word
pub word-piece : (o : Order) (n v at k : ℕ) → at + k ≤ n → take k (drop at (word o n v)) ≡ word o k (piece o n v at k)
word-piece High n v at k le =
    let r = n - (at + k) in
    let all : n ≡ at + (k + r) = omega (arith, le) in
    let x = word High at (v / 2 ^ (k + r)) in
    let y = word High k (v / 2 ^ r) in
    let z = word High r v in
    let split : word High n v ≡ x ++ (y ++ z) =
    ap (λ (j : ℕ). word High j v) all ∙ word-add High at (k + r) v ∙ ap (λ it. x ++ it) (word-add High k r v) in
    ap (λ it. take k (drop at it)) split ∙ middle x y z at k (length-word High at _) (length-word High k _)
    ∙ sym (word-mod High k (v / 2 ^ r))
word-piece Low n v at k le =
    let r = n - (at + k) in
    let all : n ≡ (r + k) + at = omega (arith, le) in
    let u = v / 2 ^ at in
    let x = word Low at v in
    let y = word Low k u in
    let z = word Low r (u / 2 ^ k) in
    let split : word Low n v ≡ x ++ (y ++ z) =
    ap (λ (j : ℕ). word Low j v) all ∙ word-add Low (r + k) at v ∙ ap (λ it. x ++ it) (word-add Low r k u) in
    ap (λ it. take k (drop at it)) split ∙ middle x y z at k (length-word Low at _) (length-word Low k _)
    ∙ sym (word-mod Low k u)

-- what is put together is below 2 to the power of its bits
pub put-below : (o : Order) (acc done part n : ℕ) → acc < 2 ^ done → part < 2 ^ n
    → put_number o acc done part n < 2 ^ (done + n)
put-below High acc done part n below small =
    let turned : n + done ≡ done + n = omega arith in
    let less : acc * 2 ^ n + part < 2 ^ n * 2 ^ done = mul-add-lt acc (2 ^ n) part (2 ^ done) below small in
    subst (λ (p : ℕ). acc * 2 ^ n + part < p) (sym (pow-add 2 n done) ∙ ap (λ (k : ℕ). 2 ^ k) turned) less
put-below Low acc done part n below small =
    let turned : part * 2 ^ done + acc ≡ acc + part * 2 ^ done = omega arith in
    let less : part * 2 ^ done + acc < 2 ^ done * 2 ^ n = mul-add-lt part (2 ^ done) acc (2 ^ n) small below in
    subst (λ (p : ℕ). acc + part * 2 ^ done < p) (sym (pow-add 2 done n))
    (subst (λ (x : ℕ). x < 2 ^ done * 2 ^ n) turned less)

pub piece-below : (o : Order) (n v at k : ℕ) → piece o n v at k < 2 ^ k
piece-below High n v at k = mod_below (v / 2 ^ (n - (at + k))) (2 ^ k) (pow_pos k)
piece-below Low n v at k = mod_below (v / 2 ^ at) (2 ^ k) (pow_pos k)

-- a byte with a word in it
pub byte-put : (o : Order) (byte s n part : ℕ) → s + n ≤ 8 → part < 2 ^ n
    → word o 8 (put_number o (put_number o (piece o 8 byte 0 s) s part n) (s + n) (piece o 8 byte (s + n) (8 - (s + n))) (8 - (s + n)))
    ≡ replaced s (word o n part) (word o 8 byte)
byte-put o byte s n part within fits =
    let m = 8 - (s + n) in
    let b = piece o 8 byte 0 s in
    let w = piece o 8 byte (s + n) m in
    let first = piece-below o 8 byte 0 s in
    let u = put_number o b s part n in
    let all : s + n + m ≡ 8 = omega (arith, within) in
    let long = length-word o 8 byte in
    let start : word o s b ≡ take s (word o 8 byte) = sym (word-piece o 8 byte 0 s (omega (arith, within))) in
    let rest : length (drop (s + n) (word o 8 byte)) ≡ m =
    let l = length-drop (s + n) (word o 8 byte) in
    omega (arith, l, long) in
    let end : word o m w ≡ drop (s + n) (word o 8 byte) =
    sym (word-piece o 8 byte (s + n) m (omega (arith, all))) ∙ take_all m _ (omega (arith, rest)) in
    let place : drop (s + n) (word o 8 byte) ≡ drop (s + length (word o n part)) (word o 8 byte) =
    ap (λ (k : ℕ). drop (s + k) (word o 8 byte)) (sym (length-word o n part)) in
    ap (λ (k : ℕ). word o k (put_number o u (s + n) w m)) (sym all)
    ∙ word-put o u (s + n) w m (put-below o b s part n first fits) (piece-below o 8 byte (s + n) m)
    ∙ ap (λ it. it ++ word o m w) (word-put o b s part n first fits) ∙ append_assoc (word o s b) (word o n part) (word o m w)
    ∙ ap (λ it. it ++ (word o n part ++ word o m w)) start
    ∙ ap (λ it. take s (word o 8 byte) ++ (word o n part ++ it)) (end ∙ place)

-- a word in place of bits, and after it another one
pub replaced-twice : (at : ℕ) (v w xs : List Bool) → at + length v ≤ length xs
    → replaced (at + length v) w (replaced at v xs) ≡ replaced at (v ++ w) xs
replaced-twice at v w xs within =
    let x = take at xs in
    let n = at + length v in
    let z = drop n xs in
    let size : length (x ++ v) ≡ n =
    let l = length-append x v in
    let m = length-take-le at xs (omega (arith, within)) in
    omega (arith, l, m) in
    let whole : replaced at v xs ≡ (x ++ v) ++ z = sym (append_assoc x v z) in
    let place : n + length w ≡ at + length (v ++ w) = let l = length-append v w in omega (arith, l) in
    let last : drop (n + length w) ((x ++ v) ++ z) ≡ drop (at + length (v ++ w)) xs =
    sym (drop-drop (length w) n ((x ++ v) ++ z)) ∙ ap (drop (length w)) (drop_at (x ++ v) z n size)
    ∙ drop-drop (length w) n xs ∙ ap (λ (k : ℕ). drop k xs) place in
    ap (replaced n w) whole ∙ ap (λ it. it ++ (w ++ drop (n + length w) ((x ++ v) ++ z))) (take_at (x ++ v) z n size)
    ∙ ap (λ it. (x ++ v) ++ (w ++ it)) last ∙ append_assoc x v (w ++ drop (at + length (v ++ w)) xs)
    ∙ ap (λ it. x ++ it) (sym (append_assoc v w (drop (at + length (v ++ w)) xs)))

-- n ones as a number
digits-ones : (n : ℕ) → word High n (2 ^ n - 1) ≡ replicate n true
digits-ones zero = word-none High (2 ^ 0 - 1)
digits-ones (suc n) =
    let next : suc n ≡ 1 + n = omega arith in
    let least : 0 < 2 ^ n = pow_pos n in
    let whole : 2 ^ suc n - 1 ≡ 1 * 2 ^ n + (2 ^ n - 1) = omega (arith, pow-suc 2 n, least) in
    ap (λ (v : ℕ). word High (suc n) v) whole ∙ ap (λ (k : ℕ). word High k (1 * 2 ^ n + (2 ^ n - 1))) next
    ∙ word_cat High 1 n 1 (2 ^ n - 1) (omega (arith, least)) ∙ ap (λ (l : List Bool). l ++ word High n (2 ^ n - 1)) (word-bit High true)
    ∙ ap (λ (l : List Bool). true ∷ l) (digits-ones n)

pub word-ones : (o : Order) (n : ℕ) → word o n (2 ^ n - 1) ≡ replicate n true
word-ones High n = digits-ones n
word-ones Low n = ap reverse (digits-ones n) ∙ reverse-replicate n true

-- a word in the middle of three lists
replaced-mid : (x y z w : List Bool) (n s : ℕ) → length x ≡ n → s + length w ≤ length y
    → x ++ (replaced s w y ++ z) ≡ replaced (n + s) w (x ++ (y ++ z))
replaced-mid x y z w n s size within =
    let first : take (n + s) (x ++ (y ++ z)) ≡ x ++ take s y =
    take-add n s (x ++ (y ++ z)) ∙ ap (λ it. it ++ take s (drop n (x ++ (y ++ z)))) (take_at x (y ++ z) n size)
    ∙ ap (λ it. x ++ take s it) (drop_at x (y ++ z) n size)
    ∙ ap (λ it. x ++ it) (take-append-le s y z (omega (arith, within))) in
    let place : n + (s + length w) ≡ n + s + length w = omega arith in
    let last : drop (n + s + length w) (x ++ (y ++ z)) ≡ drop (s + length w) y ++ z =
    ap (λ k. drop k (x ++ (y ++ z))) (sym place) ∙ sym (drop-drop (s + length w) n (x ++ (y ++ z)))
    ∙ ap (drop (s + length w)) (drop_at x (y ++ z) n size) ∙ drop-append-le (s + length w) y z within in
    ap (λ it. x ++ it) (append_assoc (take s y) (w ++ drop (s + length w) y) z
    ∙ ap (λ it. take s y ++ it) (append_assoc w (drop (s + length w) y) z))
    ∙ sym (append_assoc x (take s y) (w ++ (drop (s + length w) y ++ z)))
    ∙ ap (λ it. it ++ (w ++ (drop (s + length w) y ++ z))) (sym first)
    ∙ ap (λ it. take (n + s) (x ++ (y ++ z)) ++ (w ++ it)) (sym last)

-- nothing in place of bits
pub replaced-none : (at : ℕ) (xs : List Bool) → replaced at [] xs ≡ xs
replaced-none at xs =
    let place : at + 0 ≡ at = omega arith in
    ap (λ (k : ℕ). take at xs ++ drop k xs) place ∙ take-append-drop at xs

-- a word in one of the bytes
pub byte-set : (o : Order) (xs : List ℕ) (i s b : ℕ) (w : List Bool) → i < length xs → s + length w ≤ 8
    → word o 8 b ≡ replaced s w (word o 8 (get_or xs i 0)) → bits o (set xs i b) ≡ replaced (8 * i + s) w (bits o xs)
byte-set o xs i s b w less within is =
    let x = take i xs in
    let c = get_or xs i 0 in
    let z = drop (i + 1) xs in
    let all : xs ≡ x ++ (c ∷ z) = sym (take-append-drop i xs) ∙ ap (λ it. x ++ it) (drop_more xs i 0 less) in
    let made : set xs i b ≡ x ++ (b ∷ z) =
    sym (take-append-drop i (set xs i b)) ∙ ap (λ it. it ++ drop i (set xs i b)) (take-set xs i b)
    ∙ ap (λ it. x ++ it) (drop-set xs i b less) in
    let size : length (bits o x) ≡ 8 * i =
    let l = length-bits o x in
    let m = length-take-le i xs (omega (arith, less)) in
    omega (arith, l, m) in
    let long = length-word o 8 c in
    ap (bits o) made ∙ bits-append o x (b ∷ z) ∙ ap (λ it. bits o x ++ (it ++ bits o z)) is
    ∙ replaced-mid (bits o x) (word o 8 c) (bits o z) w (8 * i) s size (omega (arith, within, long))
    ∙ ap (replaced (8 * i + s) w) (sym (ap (bits o) all ∙ bits-append o x (c ∷ z)))

-- one more piece of a word
pub piece-put : (o : Order) (n v at done k : ℕ) (now next xs : List Bool) → done + k ≤ n → at + n ≤ length xs
    → now ≡ replaced at (take done (word o n v)) xs → next ≡ replaced (at + done) (word o k (piece o n v done k)) now
    → next ≡ replaced at (take (done + k) (word o n v)) xs
piece-put o n v at done k now next xs le room before after =
    let all = word o n v in
    let long = length-word o n v in
    let some : length (take done all) ≡ done = length-take-le done all (omega (arith, le, long)) in
    let more : take done all ++ word o k (piece o n v done k) ≡ take (done + k) all =
    ap (λ it. take done all ++ it) (sym (word-piece o n v done k le)) ∙ sym (take-add done k all) in
    after ∙ ap (replaced (at + done) (word o k (piece o n v done k))) before
    ∙ ap (λ (j : ℕ). replaced (at + j) (word o k (piece o n v done k)) (replaced at (take done all) xs)) (sym some)
    ∙ replaced-twice at (take done all) (word o k (piece o n v done k)) xs (omega (arith, le, room, some))
    ∙ ap (λ it. replaced at it xs) more

-- one more piece in one of the bytes
pub put-step : (o : Order) (at n v done k p b part : ℕ) (now was : List ℕ) → p ≡ at + done → k ≤ 8 - p % 8 → done < n
    → done + k ≤ n → at + n ≤ 8 * length was → length now ≡ length was → part ≡ piece o n v done k
    → word o 8 b ≡ replaced (p % 8) (word o k part) (word o 8 (get_or now (p / 8) 0))
    → bits o now ≡ replaced at (take done (word o n v)) (bits o was)
    → bits o (set now (p / 8) b) ≡ replaced at (take (done + k) (word o n v)) (bits o was)
put-step o at n v done k p b part now was is few less le room same cut made before =
    let inside : p / 8 < length now = omega (arith, is, less, room, same) in
    let long = length-word o k part in
    let within : p % 8 + length (word o k part) ≤ 8 = omega (arith, long, few) in
    let place : 8 * (p / 8) + p % 8 ≡ at + done = omega (arith, is) in
    let size = length-bits o was in
    let next : bits o (set now (p / 8) b) ≡ replaced (at + done) (word o k (piece o n v done k)) (bits o now) =
    byte-set o now (p / 8) (p % 8) b (word o k part) inside within made
    ∙ ap (λ (j : ℕ). replaced j (word o k part) (bits o now)) place
    ∙ ap (λ (j : ℕ). replaced (at + done) (word o k j) (bits o now)) cut in
    piece-put o n v at done k (bits o now) (bits o (set now (p / 8) b)) (bits o was) le (omega (arith, room, size)) before
    next

-- a whole byte
pub byte-whole : (o : Order) (byte s n part : ℕ) → n ≡ 8 → s + n ≤ 8 → word o 8 part ≡ replaced s (word o n part) (word o 8 byte)
byte-whole o byte s n part is within =
    let none : s ≡ 0 = omega (arith, is, within) in
    let long = length-word o 8 byte in
    let size = length-word o 8 part in
    let rest : drop (0 + length (word o 8 part)) (word o 8 byte) ≡ [] =
    drop_all (0 + length (word o 8 part)) (word o 8 byte) (omega (arith, long, size)) in
    rw (none, is) (sym (ap (λ it. word o 8 part ++ it) rest ∙ append-nil (word o 8 part)))
