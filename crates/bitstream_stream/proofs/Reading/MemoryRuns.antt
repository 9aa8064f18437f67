-- Runs of zeros in a number, and of bits in bytes.
use Rattle.std.proofs.Common.{◌≡◌, ℕ, ◌+◌, ◌-◌, ◌*◌, ◌<◌, ◌≤◌, Bool, true, false, not, refl, List, ◌++◌, length, take, drop, replicate, sym, ap, ◌∙◌, arith, take-append-drop, take_all, get_or}
use Rattle.std.proofs.lemmas.List.{at_drop_more, length-take-le, length-drop, drop-drop, drop-append-le}
use Rattle.bitstream_count.specs.Unary.{lead}
use Rattle.bitstream_count.proofs.UnaryLemmas.{lead-others, lead_le, take_others}
use Rattle.bitstream_number.specs.Word.{Order, High, Low, digits, word, bits}
use Rattle.bitstream_number.proofs.WordLemmas.{length-word, length-bits, bits-append}
use Rattle.bitstream_stream.specs.Reading.Memory.{rest_bits}
use Rattle.bitstream_order.proofs.WindowLemmas.{lead-prefix, lead-longer, rest_long}
use Rattle.bitstream_stream.proofs.Reading.MemoryWindows.{middle_word}
use Rattle.bitstream_order.specs.Parts.{piece, first_part}
use Rattle.bitstream_order.proofs.Moving.PieceLemmas.{first_bits}

-- ---- windows

-- a run within the first eight bytes
pub run_in_eight : (o : Order) (stop : Bool) (bytes : List ℕ) (bit v r : ℕ) → bit < 8 → 8 ≤ length bytes
    → take (8 * length (take 8 bytes)) (word o 64 v) ≡ bits o (take 8 bytes) → r + bit < 64
    → r ≡ lead stop (drop bit (word o 64 v)) → r ≡ lead stop (rest_bits o bytes bit)
run_in_eight o stop bytes bit v r few long window within is =
    let size : length (take 8 bytes) ≡ 8 = length-take-le 8 bytes long in
    let all : 64 ≡ 8 * length (take 8 bytes) = omega (arith, size) in
    let whole : word o 64 v ≡ bits o (take 8 bytes) =
    sym (take_all 64 (word o 64 v) (omega (arith, length-word o 64 v)))
    ∙ ap (λ n. take n (word o 64 v)) all ∙ window in
    let x = drop bit (word o 64 v) in
    let y = bits o (drop 8 bytes) in
    let parts : rest_bits o bytes bit ≡ x ++ y =
    ap (drop bit) (ap (bits o) (sym (take-append-drop 8 bytes)) ∙ bits-append o (take 8 bytes) (drop 8 bytes)
    ∙ ap (λ w. w ++ y) (sym whole)) ∙ drop-append-le bit (word o 64 v) y (omega (arith, length-word o 64 v)) in
    is ∙ sym (ap (lead stop) parts ∙ lead-longer stop x y (omega (arith, is, within, rest_long o v bit)))

-- ---- eight bytes at a time

-- 64 bits of which none is a one, or none is a zero
pub zeros_alone : (o : Order) → word o 64 0 ≡ replicate 64 false
unfolding digits
zeros_alone High = refl
zeros_alone Low = refl

pub ones_alone : (o : Order) → word o 64 18446744073709551615 ≡ replicate 64 true
unfolding digits
ones_alone High = refl
ones_alone Low = refl

-- eight bytes of which no bit is a stop bit
pub window_passes : (o : Order) (stop : Bool) (bytes : List ℕ) (at v : ℕ) → at + 8 ≤ length bytes
    → take (8 * length (take 8 (drop at bytes))) (word o 64 v) ≡ bits o (take 8 (drop at bytes))
    → word o 64 v ≡ replicate 64 (not stop)
    → lead stop (bits o (drop at bytes)) ≡ 64 + lead stop (bits o (drop (at + 8) bytes))
window_passes o stop bytes at v there window none =
    let rest = drop at bytes in
    let size : length (take 8 rest) ≡ 8 = length-take-le 8 rest (omega (arith, length-drop at bytes)) in
    let all : 64 ≡ 8 * length (take 8 rest) = omega (arith, size) in
    let whole : word o 64 v ≡ bits o (take 8 rest) =
    sym (take_all 64 (word o 64 v) (omega (arith, length-word o 64 v)))
    ∙ ap (λ n. take n (word o 64 v)) all ∙ window in
    let behind = bits o (drop 8 rest) in
    let parts : bits o rest ≡ replicate 64 (not stop) ++ behind =
    ap (bits o) (sym (take-append-drop 8 rest)) ∙ bits-append o (take 8 rest) (drop 8 rest)
    ∙ ap (λ w. w ++ behind) (sym whole ∙ none) in
    ap (lead stop) parts ∙ lead-others stop 64 behind
    ∙ ap (λ xs. 64 + lead stop (bits o xs)) (drop-drop 8 at bytes)

-- ---- byte by byte

-- a byte that has a stop bit, or none
pub byte_ends : (o : Order) (stop : Bool) (bytes : List ℕ) (at n : ℕ) → at < length bytes
    → n ≡ lead stop (word o 8 (get_or bytes at 0)) → n < 8 → lead stop (bits o (drop at bytes)) ≡ n
byte_ends o stop bytes at n there is few =
    let b = get_or bytes at 0 in
    ap (lead stop) (at_drop_more (bits o) bytes at 0 there)
    ∙ lead-longer stop (word o 8 b) (bits o (drop (at + 1) bytes)) (omega (arith, is, few, length-word o 8 b))
    ∙ sym is

pub byte_passes : (o : Order) (stop : Bool) (bytes : List ℕ) (at n : ℕ) → at < length bytes
    → n ≡ lead stop (word o 8 (get_or bytes at 0)) → 8 ≤ n
    → lead stop (bits o (drop at bytes)) ≡ 8 + lead stop (bits o (drop (at + 1) bytes))
byte_passes o stop bytes at n there is all =
    let b = get_or bytes at 0 in
    let rest = bits o (drop (at + 1) bytes) in
    let others : word o 8 b ≡ replicate 8 (not stop) =
    sym (take_all 8 (word o 8 b) (omega (arith, length-word o 8 b)))
    ∙ take_others stop 8 (word o 8 b) (omega (arith, is, all)) in
    ap (lead stop) (at_drop_more (bits o) bytes at 0 there ∙ ap (λ w. w ++ rest) others) ∙ lead-others stop 8 rest

-- the first byte, of which some bits are taken
pub first_parts : (o : Order) (bytes : List ℕ) (bit r : ℕ) → bit < 8 → 0 < length bytes
    → ((k : ℕ) → bit + k ≤ 8 → first_part o r 8 k ≡ piece o 8 (get_or bytes 0 0) bit k)
    → rest_bits o bytes bit ≡ take (8 - bit) (word o 8 r) ++ bits o (drop 1 bytes)
first_parts o bytes bit r few there law =
    let b = get_or bytes 0 0 in
    let k = 8 - bit in
    let rest = bits o (drop 1 bytes) in
    let sum : bit + k ≡ 8 = omega (arith, few) in
    let whole : word o 8 b ≡ take (bit + k) (word o 8 b) =
    sym (take_all (bit + k) (word o 8 b) (omega (arith, sum, length-word o 8 b))) in
    let last : drop bit (word o 8 b) ≡ take k (word o 8 r) =
    ap (drop bit) whole ∙ middle_word o 8 b bit k (omega (arith, sum))
    ∙ ap (word o k) (sym (law k (omega (arith, sum)))) ∙ sym (first_bits o r 8 k (omega arith)) in
    ap (drop bit) (at_drop_more (bits o) bytes 0 0 there)
    ∙ drop-append-le bit (word o 8 b) rest (omega (arith, few, length-word o 8 b)) ∙ ap (λ w. w ++ rest) last

pub first_ends : (o : Order) (stop : Bool) (bytes : List ℕ) (bit r n : ℕ) → bit < 8 → 0 < length bytes
    → ((k : ℕ) → bit + k ≤ 8 → first_part o r 8 k ≡ piece o 8 (get_or bytes 0 0) bit k)
    → n ≡ lead stop (word o 8 r) → n < 8 - bit → n ≡ lead stop (rest_bits o bytes bit)
first_ends o stop bytes bit r n few there law is less =
    let x = take (8 - bit) (word o 8 r) in
    let y = drop (8 - bit) (word o 8 r) in
    let long : length x ≡ 8 - bit = length-take-le (8 - bit) (word o 8 r) (omega (arith, length-word o 8 r)) in
    let parts = ap (lead stop) (take-append-drop (8 - bit) (word o 8 r)) in
    let run : lead stop x ≡ lead stop (x ++ y) = lead-prefix stop x y (omega (arith, parts, is, less, long)) in
    is ∙ sym parts ∙ sym run
    ∙ sym (ap (lead stop) (first_parts o bytes bit r few there law)
    ∙ lead-longer stop x (bits o (drop 1 bytes)) (omega (arith, run, parts, is, less, long)))

pub first_passes : (o : Order) (stop : Bool) (bytes : List ℕ) (bit r n : ℕ) → bit < 8 → 0 < length bytes
    → ((k : ℕ) → bit + k ≤ 8 → first_part o r 8 k ≡ piece o 8 (get_or bytes 0 0) bit k)
    → n ≡ lead stop (word o 8 r) → 8 - bit ≤ n
    → lead stop (rest_bits o bytes bit) ≡ (8 - bit) + lead stop (bits o (drop 1 bytes))
first_passes o stop bytes bit r n few there law is all =
    let rest = bits o (drop 1 bytes) in
    let others = take_others stop (8 - bit) (word o 8 r) (omega (arith, is, all)) in
    ap (lead stop) (first_parts o bytes bit r few there law ∙ ap (λ w. w ++ rest) others)
    ∙ lead-others stop (8 - bit) rest

-- a run is no longer than the bits left
pub run_within : (o : Order) (stop : Bool) (bytes : List ℕ) (bit k : ℕ) → k ≡ lead stop (rest_bits o bytes bit)
    → k ≤ 8 * length bytes - bit
run_within o stop bytes bit k is =
    let most = lead_le stop (rest_bits o bytes bit) in
    omega (arith, is, most, length-drop bit (bits o bytes), length-bits o bytes)
