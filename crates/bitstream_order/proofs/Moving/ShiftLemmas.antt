-- Bits that are shifted to follow a queue.
use Rattle.std.proofs.Common.{◌≡◌, ℕ, ◌+◌, ◌-◌, ◌<◌, ◌≤◌, List, [], ◌++◌, Bool, length, take, drop, sym, ap, ap₂, ◌∙◌, subst, arith, append_assoc, append-nil, length-drop}
use Rattle.std.proofs.Math.ListN.{drop_of_length-le}
use Rattle.std.proofs.Math.Seq.{take-length}
use Rattle.std.proofs.lemmas.List.{take-append-drop}
use Rattle.std.proofs.lemmas.Slice.{take-put_mid}
use borrow.Rule.Slice.PartMut.{put_mid}
use lib.Seq.{take-add, drop-drop}
use Rattle.bitstream_number.specs.Word.{Order, word, bits}
use Rattle.bitstream_number.proofs.WordLemmas.{bits-append}
use Rattle.bitstream_order.specs.Parts.{piece}
use Rattle.bitstream_order.specs.Moving.Shift.{Shifts}
use Rattle.bitstream_order.proofs.Moving.SendLemmas.{piece_last}
use Rattle.bitstream_order.proofs.Moving.TakeLemmas.{word-none}

-- a queue before the encoding of a value, whose last bits are left
pub shifts_word : (o : Order) (size queued queue value made : ℕ) → queued ≤ size → word o size made
    ≡ word o queued queue ++ take (size - queued) (word o size value)
    → Shifts o queued queue (word o size value) (word o size made) (piece o size value (size - queued) queued)
shifts_word o size queued queue value made le is =
    let at = size - queued in
    let back : size - at ≡ queued = omega arith in
    let q = word o queued queue in
    let w = word o size value in
    let left = word o queued (piece o size value at queued) in
    let parts : w ≡ take at w ++ left = piece_last o size value at (omega arith)
    ∙ ap (λ k. take at w ++ word o k (piece o size value at k)) back in
    ap (λ x. q ++ x) parts ∙ sym (append_assoc q (take at w) left) ∙ ap (λ x. x ++ left) (sym is)

-- no bytes
pub shifts_none : (o : Order) (queued queue : ℕ) → Shifts o queued queue [] [] queue
shifts_none o queued queue = append-nil (word o queued queue)

-- with nothing queued, bits are as they are
pub shifts_aligned : (o : Order) (queued queue : ℕ) (x : List Bool) → queued ≡ 0 → Shifts o queued queue x x queue
shifts_aligned o queued queue x none = rw (none, word-none o queue) (sym (append-nil x))

-- some bytes and then others
pub shifts_more : (o : Order) (queued queue mid left : ℕ) (xs ys us vs : List ℕ)
    → Shifts o queued queue (bits o xs) (bits o us) mid → Shifts o queued mid (bits o ys) (bits o vs) left
    → Shifts o queued queue (bits o (xs ++ ys)) (bits o (us ++ vs)) left
shifts_more o queued queue mid left xs ys us vs h k =
    ap (λ w. word o queued queue ++ w) (bits-append o xs ys)
    ∙ sym (append_assoc (word o queued queue) (bits o xs) (bits o ys)) ∙ ap (λ w. w ++ bits o ys) h
    ∙ append_assoc (bits o us) (word o queued mid) (bits o ys) ∙ ap (λ w. bits o us ++ w) k
    ∙ sym (append_assoc (bits o us) (bits o vs) (word o queued left))
    ∙ ap (λ w. w ++ word o queued left) (sym (bits-append o us vs))

pub shifts_as : (o : Order) (queued queue left : ℕ) (x y u v : List Bool) → x ≡ u → y ≡ v
    → Shifts o queued queue x y left → Shifts o queued queue u v left
shifts_as o queued queue left x y u v e f h = subst (λ a. Shifts o queued queue a v left) e
    (subst (λ b. Shifts o queued queue x b left) f h)

-- ---- parts of a slice

-- a part in the middle, after the parts before it
pub shifts_part : (o : Order) (queued queue mid left at size k : ℕ) (init xs part made : List ℕ) → k ≡ size
    → at ≤ length xs → length made ≡ size → drop at xs ≡ drop at init → part ≡ take k (drop at xs)
    → Shifts o queued queue (bits o (take at init)) (bits o (take at xs)) mid
    → Shifts o queued mid (bits o part) (bits o made) left
    → Shifts o queued queue (bits o (take (at + size) init)) (bits o (take (at + size) (put_mid at k xs made))) left
shifts_part o queued queue mid left at size k init xs part made same within len rest is h more =
    let before : take at init ++ part ≡ take (at + size) init = ap (λ l. take at init ++ l) (is ∙ ap₂ take same rest)
    ∙ sym (take-add at size init) in
    let after : take at xs ++ made ≡ take (at + size) (put_mid at k xs made) =
    sym (take-put_mid at k xs made (at + size) (ap (λ n. at + n) (sym len)) within) in
    shifts_as o queued queue left _ _ _ _ (ap (bits o) before) (ap (bits o) after)
    (shifts_more o queued queue mid left (take at init) part (take at xs) made h more)

-- the rest of it
pub shifts_rest : (o : Order) (queued queue mid left at far k : ℕ) (old xs part made : List ℕ) → k
    ≡ length xs - at → at ≤ length old → length xs ≡ length old → drop at xs ≡ drop at old → part ≡ take k (drop at xs)
    → far ≤ length part → length part < far + 1 → length made ≡ length part
    → Shifts o queued queue (bits o (take at old)) (bits o (take at xs)) mid
    → Shifts o queued mid (bits o (take far part)) (bits o (take far made)) left
    → Shifts o queued queue (bits o old) (bits o (put_mid at k xs made)) left
shifts_rest o queued queue mid left at far k old xs part made same within len rest is low high all h more =
    let size : length (drop at xs) ≡ k = length-drop at xs ∙ sym same in
    let behind : part ≡ drop at old = is ∙ ap (λ n. take n (drop at xs)) (sym size) ∙ take-length (drop at xs) ∙ rest in
    let end : far ≡ length part = omega arith in
    let none : drop k (drop at xs) ≡ [] = drop_of_length-le (drop at xs) (omega arith) in
    let first : take far part ≡ part = ap (λ n. take n part) end ∙ take-length part in
    let second : take far made ≡ made = ap (λ n. take n made) (end ∙ sym all) ∙ take-length made in
    let before : take at old ++ take far part ≡ old = ap (λ l. take at old ++ l) (first ∙ behind)
    ∙ take-append-drop at old in
    let after : take at xs ++ take far made ≡ put_mid at k xs made =
    ap (λ l. take at xs ++ l) (second ∙ sym (ap (λ l. made ++ l) none ∙ append-nil made)) in
    shifts_as o queued queue left _ _ _ _ (ap (bits o) before) (ap (bits o) after)
    (shifts_more o queued queue mid left (take at old) (take far part) (take at xs) (take far made) h more)

pub drop_more : (at size : ℕ) (xs ys : List ℕ) → drop at xs ≡ drop at ys → drop (at + size) xs ≡ drop (at + size) ys
drop_more at size xs ys e = sym (drop-drop size at xs) ∙ ap (drop size) e ∙ drop-drop size at ys
