-- Calls that need at most a known number of bits, and the bits left after them.
use Rattle.std.specs.Prelude.{◌==◌, option_map, IfSome, IsOk}
use Rattle.std.proofs.Common.{◌≡◌, ℕ, ◌+◌, ◌*◌, ◌<◌, ◌≤◌, Bool, false, List, ◌++◌, length, take, drop, replicate, Option, None, Some, Result, Ok, Err, refl, sym, ap, ◌∙◌, arith, length-append, length-drop}
use Rattle.std.proofs.lemmas.List.{length-replicate}
use Rattle.std.proofs.Math.Seq.{drop-append_seam}
use Rattle.std.proofs.lemmas.Bool.{le-leb, ne_eqb}
use Rattle.bitstream_number.specs.Word.{Order, bits, number, signed_number, bytes_of, count_width}
use Rattle.bitstream_count.specs.declared.error.Error.{Error}
use Rattle.bitstream_count.specs.Codec.{Decoder, Done, advance, and_then, pure, consume}
use Rattle.bitstream_order.specs.Refusal.{TrueEnds}
use Rattle.bitstream_stream.specs.Reading.Enough.{IsDoneBy}
use Rattle.bitstream_stream.specs.Reading.Reads.{ReaderState, BitSource, Reads, ReadDone, had_failed, was_done, was_refused, memory_refused, bits_left}
use Rattle.bitstream_stream.specs.Reading.ReadTable.{first_bit, bit_decoder, unsigned_decoder, signed_decoder, const_decoder, count_decoder, bytes_decoder, skip_decoder}
use Rattle.bitstream_stream.proofs.Reading.CodecLemmas.{and_then-ok}
use Rattle.bitstream_stream.proofs.Reading.ReadsLemmas.{took, Took-left}
use Rattle.bitstream_stream.proofs.Reading.TableLemmas.{unsigned-takes}

takes-enough : {A : Type 0} (n : ℕ) (g : List Bool → A) → IsDoneBy n (consume n (λ w. Ok (g w)))
takes-enough n g p bits enough = (g (take n bits), rw (le-leb n (length bits) enough) refl)

pub bit-enough : IsDoneBy 1 bit_decoder
bit-enough = takes-enough 1 first_bit

pub unsigned-enough : (o : Order) (size n : ℕ) → n ≤ size → IsDoneBy n (unsigned_decoder o size n)
unsigned-enough o size n le = rw (unsigned-takes o size n le) (takes-enough n (number o))

pub signed-enough : (o : Order) (size n : ℕ) → 0 < n → n ≤ size → IsDoneBy n (signed_decoder o size n)
unfolding signed_decoder
signed-enough o size n some le p bits enough =
    (signed_number o (take n bits), rw (ne_eqb n 0 (omega arith), le-leb n size le, le-leb n (length bits) enough) refl)

pub const-enough : (o : Order) (n v : ℕ) → IsDoneBy n (const_decoder o n v)
unfolding const_decoder
const-enough o n v = takes-enough n (λ w. number o w == v)

pub count-enough : (o : Order) (max : ℕ) → IsDoneBy (count_width max) (count_decoder o max)
unfolding count_decoder
count-enough o max = takes-enough (count_width max) (number o)

pub bytes-enough : (o : Order) (n : ℕ) → IsDoneBy (8 * n) (bytes_decoder o n)
unfolding bytes_decoder
bytes-enough o n = takes-enough (8 * n) (bytes_of o n)

pub skip-enough : (n : ℕ) → IsDoneBy n (skip_decoder n)
unfolding skip_decoder
skip-enough n = takes-enough n (λ _. tt)

pub pure-enough : {A : Type 0} (a : A) → IsDoneBy 0 (pure a)
pure-enough a p bits enough = (a, refl)

pub and_then-enough : {A B : Type 0} (m n : ℕ) (e : Decoder A) (f : A → Decoder B) → IsDoneBy m e
    → ((a : A) → IsDoneBy n (f a)) → IsDoneBy (m + n) (and_then e f)
and_then-enough m n e f first second p bits enough =
    let one = first p bits (omega arith) in
    let two = second one.0 (p + m) (drop m bits) (omega (arith, length-drop m bits)) in
    (two.0, and_then-ok e f p bits m one.0 one.1 ∙ ap (advance m) two.1)

-- bits left are those of bytes that the stream tells
told : (queue : List Bool) (o : Order) (bytes : Option (List ℕ)) (left : List Bool)
    → option_map (λ xs. queue ++ bits o xs) bytes ≡ Some left
    → (xs : List ℕ) × (bytes ≡ Some xs) × (queue ++ bits o xs ≡ left)
told queue o None left h = cc
told queue o (Some xs) left h = (xs, refl, cc)

-- a call that returned a value took its bits, and the bits after them are left
left_behind : {A : Type 0} (o : Order) (e : Decoder A) (a : A) (s t : ReaderState) (left : List Bool)
    (r : Result A Error) → r ≡ Ok a → (h : ReadDone o e s r t) → bits_left o s ≡ Some left
    → (t.failed ≡ false) × (bits_left o t ≡ Some (drop (length h.word) left))
left_behind o e a s t left (Ok b) is h known =
    let all = told s.queue o s.bytes left known in
    let rest = Took-left o h.word s t (took o e b s t h) all.0 all.1 in (
      h.failed,
      ap (option_map (λ xs. t.queue ++ bits o xs)) rest.1
          ∙ ap Some (sym (ap (drop (length h.word)) (sym all.2 ∙ rest.2)
          ∙ drop-append_seam h.word (t.queue ++ bits o rest.0))),
    )
left_behind o e a s t left (Err x) is h known = cc

pub Reads-enough : {R A : Type 0} {K : BitSource R} {e : Decoder A} {r : Result A Error} {s t : R} (n : ℕ)
    (left : List Bool) → TrueEnds K.may → (K.state s).failed ≡ false → bits_left K.order (K.state s) ≡ Some left
    → n ≤ length left → IsDoneBy n e → Reads K e s r t
    → (value : A) × (r ≡ Ok value) × ((K.state t).failed ≡ false) × (bits_left K.order (K.state t)
    ≡ Some (drop n left))
Reads-enough n left ends fine known enough done (had_failed h) = let p = h.failed in cc
Reads-enough {K = K} {e = e} {r = r} {s = s} {t = t} n left ends fine known enough done (was_done h) =
    let more = replicate n false in
    let found = done (K.state s).taken (h.word ++ more)
    (omega (arith, length-append h.word more, length-replicate n false)) in
    let same : Done n (Ok found.0) ≡ Done (length h.word) r = sym found.1 ∙ h.decides more in
    let long : length h.word ≡ n = cc in
    let is : r ≡ Ok found.0 = cc in
    let behind = left_behind K.order e found.0 (K.state s) (K.state t) left r is h known in
    (found.0, is, behind.0, behind.1 ∙ ap (λ k. Some (drop k left)) long)
Reads-enough {K = K} {e = e} {s = s} n left ends fine known enough done (was_refused h) =
    let all = told (K.state s).queue K.order (K.state s).bytes left known in
    let found = done (K.state s).taken left enough in
    let few = ap (λ l. e.reads (K.state s).taken l) (sym all.2) ∙ h.ended (ends h.refusal h.allowed) all.0 all.1 in
    cc
Reads-enough n left ends fine known enough done (memory_refused g h) = cc

-- the same, if the stream tells how many bits are left
pub done-if_left : {R A : Type 0} {K : BitSource R} {e : Decoder A} {r : Result A Error} {s t : R} (n : ℕ)
    → TrueEnds K.may → (K.state s).failed ≡ false → IsDoneBy n e → Reads K e s r t
    → IfSome (bits_left K.order (K.state s)) (λ left. n ≤ length left → IsOk r)
done-if_left {K = K} {r = r} {s = s} n ends fine done h = by (bits_left K.order (K.state s)) refl
  where
    by : (left : Option (List Bool)) → bits_left K.order (K.state s) ≡ left → IfSome left (λ xs. n ≤ length xs → IsOk r)
    by None is = tt
    by (Some xs) is = λ enough. let found = Reads-enough n xs ends fine is enough done h in rw found.1 refl
