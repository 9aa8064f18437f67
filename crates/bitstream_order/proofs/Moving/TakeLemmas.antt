-- The bits that the kernels take from a port.
use Rattle.std.proofs.KnownBytes.{Consumes-nil}
use Rattle.std.proofs.Common.{◌≡◌, ℕ, ◌+◌, ◌*◌, ◌/◌, ◌^◌, ◌<◌, ◌≤◌, List, [], ◌++◌, length, take, refl, sym, ap, ap₂, ◌∙◌, subst, arith, append_assoc, append-nil, length-append}
use Rattle.bitstream_number.specs.Word.{Order, High, Low, digits, word, bits}
use Rattle.bitstream_number.proofs.WordLemmas.{length-word, length-bits}
use Rattle.bitstream_order.specs.Parts.{first_part, put_number, piece}
use Rattle.bitstream_order.specs.Port.{PortState, Fetched}
use Rattle.bitstream_order.specs.Moving.Gather.{TakesWord, padding_bits}
use Rattle.bitstream_order.proofs.PartLemmas.{put_word, put_below, first_below}
use Rattle.bitstream_order.proofs.Moving.PieceLemmas.{piece_more, first_bits, prefix_bits}

pub word-none : (o : Order) (v : ℕ) → word o 0 v ≡ []
unfolding digits
word-none High v = refl
word-none Low v = refl

-- no bits after an encoding
whole : (o : Order) (n v : ℕ) → word o n v ++ word o 0 0 ≡ word o n v
whole o n v = ap (λ w. word o n v ++ w) (word-none o 0) ∙ append-nil (word o n v)

-- ---- taking

pub takes_none : (o : Order) (left queue n : ℕ) (p : PortState) → queue < 2 ^ left → n ≡ left
    → TakesWord o left queue p n queue 0 0 p
takes_none o left queue n p below e = subst (λ k. TakesWord o left queue p k queue 0 0 p) (sym e) (record {
  bytes = [];
  loses = Consumes-nil p.bytes;
  fetched = omega arith;
  refusals = refl;
  references = refl;
  word = append-nil (word o left queue) ∙ sym (whole o left queue);
  below = below;
})

-- the first n bits of a byte of whose bits `left` wait
pub takes_queue : (o : Order) (left byte n k v q : ℕ) (p : PortState) → byte < 256 → left ≤ 8 → n + k ≡ left → v
    ≡ first_part o byte 8 n → q ≡ piece o 8 byte n k → TakesWord o left (first_part o byte 8 left) p n v k q p
takes_queue o left byte n k v q p below le sum first rest = record {
  bytes = [];
  loses = Consumes-nil p.bytes;
  fetched = omega arith;
  refusals = refl;
  references = refl;
  word =
      append-nil (word o left (first_part o byte 8 left)) ∙ sym (first_bits o byte 8 left le)
      ∙ ap (λ i. take i (word o 8 byte)) (sym sum) ∙ piece_more o 8 byte n k (omega arith)
      ∙ ap₂ (λ w x. w ++ word o k x) (first_bits o byte 8 n (omega arith) ∙ ap (word o n) (sym first)) (sym rest);
  below = subst (λ x. x < 2 ^ n) (sym first) (first_below o byte 8 n below (omega arith));
}

-- some of the bits of some bytes after an encoding; w is the number of these bytes and of the bytes after them
pub takes_bits : (o : Order) (done acc n size w f v q : ℕ) (bs z : List ℕ) (old new : PortState) → acc < 2 ^ done
    → w < 2 ^ size → length bs ≡ (n + 7) / 8 → 8 * ((n + 7) / 8) ≤ size → Fetched old bs new
    → word o size w ≡ bits o (bs ++ z) → f ≡ first_part o w size n → v ≡ put_number o acc done f n → q
    ≡ piece o size w n (padding_bits n)
    → TakesWord o done acc old (done + n) v (padding_bits n) q new
takes_bits o done acc n size w f v q bs z old new below small len fits h is first put cut =
    let f_below : f < 2 ^ n = subst (λ x. x < 2 ^ n) (sym first) (first_below o w size n small (omega arith)) in
    let all : 8 * length bs ≡ n + padding_bits n = omega arith in
    let two : bits o bs ≡ word o n f ++ word o (padding_bits n) q =
    sym (prefix_bits o bs z) ∙ ap (take (8 * length bs)) (sym is) ∙ ap (λ k. take k (word o size w)) all
    ∙ piece_more o size w n (padding_bits n) (omega arith)
    ∙ ap₂ (λ a b. a ++ word o (padding_bits n) b) (first_bits o w size n (omega arith) ∙ ap (word o n) (sym first)) (sym cut)
    in
    let prefix_is : word o (done + n) v ≡ word o done acc ++ word o n f = ap (word o (done + n)) put
    ∙ put_word o acc done f n below f_below in
    record {
      bytes = bs;
      loses = h.loses;
      fetched = h.fetched;
      refusals = h.refusals;
      references = h.references;
      word = ap (λ x. word o done acc ++ x) two ∙ sym (append_assoc (word o done acc) (word o n f)
          (word o (padding_bits n) q)) ∙ ap (λ x. x ++ word o (padding_bits n) q) (sym prefix_is);
      below = subst (λ x. x < 2 ^ (done + n)) (sym put) (put_below o acc done f n below f_below);
    }

-- how many bits there are
pub takes_lengths : (o : Order) (left queue n v l q : ℕ) (bytes : List ℕ) → word o left queue ++ bits o bytes
    ≡ word o n v ++ word o l q → left + 8 * length bytes ≡ n + l
takes_lengths o left queue n v l q bytes e =
    sym (ap₂ (λ x y. x + y) (length-word o left queue) (length-bits o bytes))
    ∙ sym (length-append (word o left queue) (bits o bytes)) ∙ ap (λ w. length w) e
    ∙ length-append (word o n v) (word o l q) ∙ ap₂ (λ x y. x + y) (length-word o n v) (length-word o l q)

-- the same encoding, by equal numbers
pub takes_as : (o : Order) (left z queue m n v l k byte : ℕ) (old new : PortState) → z ≡ queue → m ≡ n → l ≡ k
    → TakesWord o left z old m v l (first_part o byte 8 l) new
    → TakesWord o left queue old n v k (first_part o byte 8 k) new
takes_as o left z queue m n v l k byte old new e f d h =
    subst (λ x. TakesWord o left x old n v k (first_part o byte 8 k) new) e
    (subst (λ i. TakesWord o left z old i v k (first_part o byte 8 k) new) f
    (subst (λ i. TakesWord o left z old m v i (first_part o byte 8 i) new) d h))
