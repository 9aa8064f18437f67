-- The last bytes of some, of which the first are taken, and the place at which they begin.
use Rattle.std.proofs.Common.{◌≡◌, ℕ, zero, suc, ◌+◌, ◌-◌, ◌<◌, ◌≤◌, List, [], ◌++◌, length, take, drop, refl, sym, ap, ap₂, ◌∙◌, subst, arith, append_assoc, length-append, take-append-drop}
use Rattle.std.proofs.Math.Seq.{take-append_seam, drop-append-add, drop-nil}
use Rattle.std.proofs.lemmas.List.{length-drop, length-take-le}
use Rattle.bitstream_order.specs.Streaming.Tail.{IsTail}

-- bytes after a prefix are the last bytes of the two together
behind : (prefix bytes : List ℕ) → IsTail bytes (prefix ++ bytes)
behind prefix bytes =
    let size : length (prefix ++ bytes) - length bytes ≡ length prefix = omega (arith, length-append prefix bytes) in
    sym (ap (λ k. take k (prefix ++ bytes) ++ bytes) size ∙ ap (λ xs. xs ++ bytes) (take-append_seam prefix bytes))

pub tail_part : (n : ℕ) (bytes all back : List ℕ) → IsTail bytes all → back ≡ drop n bytes → IsTail back all
tail_part n bytes all back tail cut =
    let prefix = take (length all - length bytes) all in
    let parts : (prefix ++ take n bytes) ++ back ≡ all =
    ap (λ xs. (prefix ++ take n bytes) ++ xs) cut ∙ append_assoc prefix (take n bytes) (drop n bytes)
    ∙ ap (λ xs. prefix ++ xs) (take-append-drop n bytes) ∙ sym tail in
    subst (λ xs. IsTail back xs) parts (behind (prefix ++ take n bytes) back)

pub none_left : (n : ℕ) (bytes back : List ℕ) → bytes ≡ [] → back ≡ drop n bytes → back ≡ []
none_left n bytes back none cut = cut ∙ ap (λ xs. drop n xs) none ∙ drop-nil n

-- ---- the place at which the last bytes begin

none_past : (past : ℕ) (bytes : List ℕ) → (0 < past → bytes ≡ []) → drop past bytes ≡ bytes
none_past zero bytes ended = refl
none_past (suc k) bytes ended =
    let none = ended (omega arith) in
    ap (λ xs. drop (suc k) xs) none ∙ drop-nil (suc k) ∙ sym none

pub behind_place : (past : ℕ) (bytes all : List ℕ) → IsTail bytes all → (0 < past → bytes ≡ [])
    → drop ((length all - length bytes) + past) all ≡ bytes
behind_place past bytes all tail ended =
    let prefix = take (length all - length bytes) all in
    let size : length prefix ≡ length all - length bytes =
    length-take-le (length all - length bytes) all (omega arith) in
    ap₂ (λ n xs. drop (n + past) xs) (sym size) tail ∙ drop-append-add prefix bytes past ∙ none_past past bytes ended

-- after the first n of the last bytes, the position is n further on
pub place_behind : (n past : ℕ) (bytes all back : List ℕ) → IsTail bytes all → back ≡ drop n bytes → n ≤ length bytes
    → (length all - length back) + past ≡ ((length all - length bytes) + past) + n
place_behind n past bytes all back tail cut enough =
    let prefix = take (length all - length bytes) all in
    let whole : length all ≡ length prefix + length bytes = ap length tail ∙ length-append prefix bytes in
    let left : length back ≡ length bytes - n = ap length cut ∙ length-drop n bytes in
    omega arith
