-- Bytes up to the end: how many they are, of the bytes of the whole.
use Rattle.std.proofs.Common.{◌≡◌, ◌∙◌, ℕ, ◌+◌, ◌-◌, ◌*◌, Bool, List, [], ◌++◌, length, append-nil, Ok, sym, ap, subst, arith}
use Rattle.bitstream_number.proofs.WordLemmas.{length-bits}
use Rattle.bitstream_io.specs.Callers.{Decoder, Encoder, Done, Order, bits, write_sequence}
use Rattle.bitstream_io.proofs.CallerLemmas.{Packs}

-- Reads that are given the number of bytes of the rest take it from the bytes of the whole: those after the head.
pub rest-back : {A : Type 0} (d : ℕ → Decoder A) (o : Order) (packet : List ℕ) (es : List Encoder) (head count : ℕ) (a : A)
    → Packs es (8 * head + 8 * count) → bits o packet ≡ write_sequence es 0
    → ((more : List Bool) → (d count).reads 0 (write_sequence es 0 ++ more) ≡ Done (length (write_sequence es 0)) (Ok a))
    → (d (length packet - head)).reads 0 (bits o packet) ≡ Done (length (write_sequence es 0)) (Ok a)
rest-back d o packet es head count a packs is back =
    let long : length (write_sequence es 0) ≡ 8 * head + 8 * count = packs.size 0 in
    let all : length (bits o packet) ≡ 8 * length packet = length-bits o packet in
    let whole : length (bits o packet) ≡ length (write_sequence es 0) = ap length is in
    let same : count ≡ length packet - head = omega (arith, long, all, whole) in
    ap ((d (length packet - head)).reads 0) (is ∙ sym (append-nil (write_sequence es 0)))
    ∙ subst (λ n. (d n).reads 0 (write_sequence es 0 ++ []) ≡ Done (length (write_sequence es 0)) (Ok a)) same (back [])
