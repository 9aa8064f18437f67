-- Unary numbers and exponential Golomb numbers: their bits, and one part after another.
use Rattle.std.proofs.Common.{◌≡◌, ◌∙◌, ◌+◌, ◌-◌, ◌*◌, ◌^◌, ◌<◌, ◌≤◌, ◌++◌, ◌∷◌, [], ℕ, Bool, true, not, List, length, replicate, refl, sym, ap, subst, arith, append-nil, length-append}
use Rattle.std.proofs.lemmas.List.{length-replicate, replicate-append-replicate}
use Rattle.bitstream_io.proofs.CallerLemmas.{top}
use Rattle.bitstream_io.proofs.GolombLemmas.{has_word}
use Rattle.bitstream_io.proofs.UnaryLemmas.{length-unary}
use Rattle.bitstream_io.proofs.WordLemmas.{length-word}
use Rattle.bitstream_io.proofs.WriteLemmas.{unsigned-fits}
use Rattle.bitstream_io.specs.Callers.{Order, word, write_sequence, unsigned}
use Rattle.bitstream_io.specs.Golomb.{ue_writes, zeros_of}
use Rattle.bitstream_io.specs.Unary.{unary}
use Rattle.bits_c.specs.Writer.{HasRoom, Wrote}
use Rattle.bits_c.specs.declared.writer.BitsWriter.{BitsWriter}
use Rattle.bits_c.proofs.WroteLemmas.{room-after, wrote-more}

-- more of the same bits
pub same-more : (o : Order) (x : Bool) (count left n : ℕ) (w : List Bool) (a b c : BitsWriter) → n ≤ left → left ≤ count
    → HasRoom a count → Wrote o (replicate (count - left) x) a b → w ≡ replicate n x → Wrote o w b c
    → Wrote o (replicate (count - (left - n)) x) a c
same-more o x count left n w a b c few most room first is second =
    let size = length-replicate (count - left) x in
    let there : HasRoom a (length (replicate (count - left) x)) =
    let r = room.0 in
    let t = room.1 in
    (omega (arith, r, size), omega (arith, t, size)) in
    let sum : count - left + n ≡ count - (left - n) = omega (arith, few, most) in
    let whole : replicate (count - left) x ++ w ≡ replicate (count - (left - n)) x =
    ap (λ it. replicate (count - left) x ++ it) is ∙ replicate-append-replicate (count - left) n x
    ∙ ap (λ (k : ℕ). replicate k x) sum in
    subst (λ (it : List Bool). Wrote o it a c) whole (wrote-more o (replicate (count - left) x) w a b c there first second)

pub same-room : (o : Order) (x : Bool) (count left n : ℕ) (a b : BitsWriter) → n ≤ left → left ≤ count → HasRoom a count
    → Wrote o (replicate (count - left) x) a b → HasRoom b n
same-room o x count left n a b few most room first =
    let size = length-replicate (count - left) x in
    let r = room.0 in
    let t = room.1 in
    let there : HasRoom a (length (replicate (count - left) x) + n) =
    (omega (arith, r, size, few, most), omega (arith, t, size, few, most)) in
    room-after o (replicate (count - left) x) a b n there first

-- a unary number: its first bits, and the stop bit
pub unary-room : (o : Order) (x : Bool) (count : ℕ) (a b : BitsWriter) → HasRoom a (count + 1) → Wrote o (replicate count x) a b
    → HasRoom b 1
unary-room o x count a b room first =
    let size = length-replicate count x in
    let r = room.0 in
    let t = room.1 in
    let there : HasRoom a (length (replicate count x) + 1) = (omega (arith, r, size), omega (arith, t, size)) in
    room-after o (replicate count x) a b 1 there first

pub unary-wrote : (o : Order) (stop : Bool) (count v : ℕ) (a b c : BitsWriter) → HasRoom a (count + 1)
    → Wrote o (replicate count (not stop)) a b → word o 1 v ≡ stop ∷ [] → Wrote o (word o 1 v) b c
    → Wrote o (unary stop count) a c
unary-wrote o stop count v a b c room first is second =
    let size = length-replicate count (not stop) in
    let r = room.0 in
    let t = room.1 in
    let there : HasRoom a (length (replicate count (not stop))) = (omega (arith, r, size), omega (arith, t, size)) in
    subst (λ (it : List Bool). Wrote o (replicate count (not stop) ++ it) a c) is
    (wrote-more o (replicate count (not stop)) (word o 1 v) a b c there first second)

last-number : (o : Order) (n v at : ℕ) → n ≤ 32 → v < 2 ^ n → write_sequence (unsigned o 32 n v ∷ []) at ≡ word o n v ++ []
last-number o n v at few fits = rw (unsigned-fits o 32 n v at few fits) refl

-- the bits of an exponential Golomb number
pub ue-bits : (o : Order) (v : ℕ) → v < 2 ^ 32 - 1
    → write_sequence (ue_writes o v) 0 ≡ unary true (zeros_of v) ++ word o (zeros_of v) (v + 1 - 2 ^ zeros_of v)
ue-bits o v small =
    let n = zeros_of v in
    let t = top 32 (v + 1) (omega arith) (omega arith) in
    let few : n ≤ 32 = omega arith in
    let r = v + 1 - 2 ^ n in
    ap (λ es. write_sequence es 0) (has_word o v small)
    ∙ ap (λ it. unary true n ++ it) (last-number o n r (0 + length (unary true n)) few t.rest ∙ append-nil (word o n r))

pub ue-long : (o : Order) (v : ℕ) → v < 2 ^ 32 - 1 → length (write_sequence (ue_writes o v) 0) ≡ 2 * zeros_of v + 1
ue-long o v small =
    let n = zeros_of v in
    let i = length-append (unary true n) (word o n (v + 1 - 2 ^ n)) in
    let j = length-unary true n in
    let k = length-word o n (v + 1 - 2 ^ n) in
    ap length (ue-bits o v small) ∙ i ∙ omega (arith, j, k)

-- its two parts
pub ue-wrote : (o : Order) (v n r : ℕ) (a b c : BitsWriter) → v < 2 ^ 32 - 1 → n ≡ zeros_of v → r ≡ v + 1 - 2 ^ zeros_of v
    → HasRoom a (2 * n + 1) → Wrote o (unary true n) a b → Wrote o (word o n r) b c
    → Wrote o (write_sequence (ue_writes o v) 0) a c
ue-wrote o v n r a b c small is rest room first second =
    let size = length-unary true n in
    let i = room.0 in
    let j = room.1 in
    let there : HasRoom a (length (unary true n)) = (omega (arith, i, size), omega (arith, j, size)) in
    let whole : unary true n ++ word o n r ≡ write_sequence (ue_writes o v) 0 =
    ap (λ (k : ℕ). unary true k ++ word o k r) is ∙ ap (λ (k : ℕ). unary true (zeros_of v) ++ word o (zeros_of v) k) rest
    ∙ sym (ue-bits o v small) in
    subst (λ (it : List Bool). Wrote o it a c) whole (wrote-more o (unary true n) (word o n r) a b c there first second)

-- room for the second part
pub ue-room : (o : Order) (n : ℕ) (a b : BitsWriter) → HasRoom a (2 * n + 1) → Wrote o (unary true n) a b → HasRoom b n
ue-room o n a b room first =
    let size = length-unary true n in
    let i = room.0 in
    let j = room.1 in
    let there : HasRoom a (length (unary true n) + n) = (omega (arith, i, size), omega (arith, j, size)) in
    room-after o (unary true n) a b n there first
