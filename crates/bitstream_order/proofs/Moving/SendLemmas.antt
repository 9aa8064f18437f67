-- The bits that the kernels send to a port.
use Rattle.std.proofs.Common.{◌≡◌, ℕ, ◌+◌, ◌-◌, ◌*◌, ◌/◌, ◌^◌, ◌<◌, ◌≤◌, Bool, List, ◌++◌, length, take, drop, sym, ap, ap₂, ◌∙◌, subst, arith, length-append, length-take-le, mod-lt}
use Rattle.std.proofs.Math.Seq.{take-length, take-append-add}
use Rattle.std.proofs.lemmas.List.{take-append-drop}
use Rattle.std.proofs.lemmas.Nat.{pow_pos}
use Rattle.bitstream_count.specs.declared.error.Error.{Error}
use Rattle.bitstream_number.specs.Word.{Order, High, Low, word, bits}
use Rattle.bitstream_number.proofs.WordLemmas.{length-word, length-bits}
use Rattle.bitstream_order.specs.Parts.{piece}
use Rattle.bitstream_order.specs.Moving.Send.{SendsBits}
use Rattle.bitstream_order.specs.Port.{PortState, Sent, SendRefused}
use Rattle.bitstream_order.specs.Refusal.{Refusal}
use Rattle.bitstream_order.proofs.Moving.PieceLemmas.{piece_more, take_less, prefix_bits}

pub piece_below : (o : Order) (n v at k : ℕ) → piece o n v at k < 2 ^ k
piece_below High n v at k = mod-lt (v / 2 ^ (n - (at + k))) (pow_pos k)
piece_below Low n v at k = mod-lt (v / 2 ^ at) (pow_pos k)

-- the first bits of an encoding, and its other bits
pub piece_last : (o : Order) (n v at : ℕ) → at ≤ n → word o n v ≡ take at (word o n v)
    ++ word o (n - at) (piece o n v at (n - at))
piece_last o n v at le =
    let all : at + (n - at) ≡ n = omega arith in
    let w = word o n v in
    sym (take-length w) ∙ ap (λ (k : ℕ). take k w) (length-word o n v ∙ sym all)
    ∙ piece_more o n v at (n - at) (omega arith)

pub sends_bytes : (o : Order) (x y : List Bool) (bs : List ℕ) (old new : PortState) → Sent old bs new → y ≡ x
    ++ bits o bs → SendsBits o x old y new
sends_bytes o x y bs old new h is = record {
  bytes = bs;
  grows = h.grows;
  fetched = h.fetched;
  sent = h.sent;
  refusals = h.refusals;
  references = h.references;
  word = is;
}

-- the full bytes of a queue and the encoding after it, from a value whose bits are the bits of the queue and then the
-- first bits of another value
pub prefix_bytes : (o : Order) (queued queue n v size m t : ℕ) (bytes : List ℕ) → queued < 8 → 8 ≤ queued + n → n ≤ size
    → size ≡ 8 * length bytes
    → take n (word o size t) ≡ word o n v → word o size m ≡ word o queued queue ++ take (size - queued) (word o size t)
    → bits o bytes ≡ word o size m
    → word o queued queue ++ take (8 * ((queued + n) / 8) - queued) (word o n v)
    ≡ bits o (take ((queued + n) / 8) bytes)
prefix_bytes o queued queue n v size m t bytes few full room long prefix both is =
    let count = (queued + n) / 8 in
    let k = 8 * count - queued in
    let q = word o queued queue in
    let b = word o size t in
    let r = take count bytes in
    let r_len : length r ≡ count = length-take-le count bytes (omega arith) in
    let b_len = length-word o size t in
    let n_len : length (take n b) ≡ n = length-take-le n b (omega arith) in
    let s_len : length (take (size - queued) b) ≡ size - queued = length-take-le (size - queued) b (omega arith) in
    let q_len = length-word o queued queue in
    let sum : 8 * count ≡ length q + k = omega arith in
    let bits_are : bits o r ≡ take (8 * count) (bits o bytes) =
    sym (ap (λ i. take (8 * i) (bits o (r ++ drop count bytes))) (sym r_len) ∙ prefix_bits o r (drop count bytes))
    ∙ ap (λ x. take (8 * count) (bits o x)) (take-append-drop count bytes) in
    let whole : take (8 * count) (bits o bytes) ≡ q ++ take k (take (size - queued) b) = ap₂ take sum (is ∙ both)
    ∙ take-append-add q (take (size - queued) b) k in
    let word_is : take k (take (size - queued) b) ≡ take k (word o n v) =
    take_less k (size - queued) b (omega arith) ∙ sym (take_less k n b (omega arith)) ∙ ap (take k) prefix in
    sym (bits_are ∙ whole ∙ ap (λ x. q ++ x) word_is)

-- a failed request to send the bytes that a queue and an encoding fill
pub sends_refused : (may : Refusal → Type 0) (o : Order) (queued queue n v : ℕ) (error : Error) (k : ℕ)
    (old new : PortState) → k ≡ (queued + n) / 8 → SendRefused may error old k new
    → SendRefused may error old ((length (word o queued queue) + length (word o n v)) / 8) new
sends_refused may o queued queue n v error k old new is h =
    rw (length-word o queued queue, length-word o n v) (subst (λ m. SendRefused may error old m new) is h)

-- the numbers of bits that were sent and queued, when the full bytes of a queue and an encoding were sent and the rest
-- is queued
pub sent_bits : (o : Order) (queued queue kept rest : ℕ) (x : List Bool) (bytes : List ℕ) (old new : ℕ) → new
    ≡ old + length bytes → word o queued queue ++ x ≡ bits o bytes ++ word o kept rest
    → 8 * new + kept ≡ 8 * old + queued + length x
sent_bits o queued queue kept rest x bytes old new sent is =
    omega (
      arith,
      sent,
      ap length is,
      length-append (word o queued queue) x,
      length-append (bits o bytes) (word o kept rest),
      length-word o queued queue,
      length-word o kept rest,
      length-bits o bytes,
    )
