-- How the table's decoders are made of one another.
use Rattle.std.proofs.Common.{◌≡◌, ℕ, ◌+◌, ◌*◌, ◌^◌, ◌<◌, ◌≤◌, Bool, true, false, List, [], ◌∷◌, length, drop, Ok, Err, refl, sym, ap, ◌∙◌, arith, nat_eq, add-zero, zero-add, inl, inr}
use Rattle.std.proofs.Math.Nat.{pow-le-pow_right}
use Rattle.std.proofs.lemmas.Bool.{cases_lt, le-leb, lt-leb, ne_eqb}
use Rattle.std.proofs.lemmas.Nat.{pow-add}
use Rattle.bitstream_count.specs.declared.error.Error.TheVariants.{Failed, NoSignBit, ReadBits}
use Rattle.bitstream_count.specs.Codec.{Decoder, Prefix, Incomplete, Done, advance, and_then, pure, consume, fail}
use Rattle.bitstream_number.specs.Word.{Order, High, Low, digits_number, number, signed_from, signed_number, count_width}
use Rattle.bitstream_number.proofs.WordLemmas.{count_fits, count_width_least}
use Rattle.bitstream_stream.specs.Reading.ReadTable.{first_bit, bit_decoder, unsigned_decoder, signed_decoder, count_decoder}
use Rattle.bitstream_stream.proofs.Reading.CodecLemmas.{Same, Same-trans, map_takes, word_prefix-some, and_then-ok, and_then-err, and_then-failed}

pub unsigned-takes : (o : Order) (size n : ℕ) → n ≤ size → unsigned_decoder o size n ≡ consume n (λ w. Ok (number o w))
unfolding unsigned_decoder
unsigned-takes o size n h = rw (le-leb n size h) refl

-- an encoding of one bit
bit_number : (o : Order) (b : Bool) → nat_eq (number o (b ∷ [])) 1 ≡ b
unfolding digits_number
bit_number High true = refl
bit_number High false = refl
bit_number Low true = refl
bit_number Low false = refl

one_bit : (o : Order) (w : List Bool) → length w ≡ 1 → first_bit w ≡ nat_eq (number o w) 1
one_bit o [] h = absurd (omega arith)
one_bit o (b ∷ []) h = sym (bit_number o b)
one_bit o (b ∷ d ∷ w) h = absurd (omega arith)

pub bit-unsigned : (o : Order) (size : ℕ) → 1 ≤ size → Same (and_then (unsigned_decoder o size 1) (λ n. pure (nat_eq n 1)))
    bit_decoder
bit-unsigned o size h = rw (unsigned-takes o size 1 h) (map_takes 1 (number o) (λ n. nat_eq n 1) (λ w. Ok (first_bit w))
    (λ w len. ap Ok (one_bit o w len)))

pub unsigned-on_failed : (o : Order) (size n : ℕ) → (unsigned_decoder o size n).on_failed ≡ Err Failed
unfolding unsigned_decoder
unsigned-on_failed o size n = refl

-- ---- an encoding of no bits

longer-none : {A : Type 0} (f : Prefix A) → advance 0 f ≡ f
longer-none Incomplete = refl
longer-none (Done n a) = ap (λ k. Done k a) (zero-add n)

-- an encoding of no bits, and then a call
pub none-then : {A : Type 0} (o : Order) (size : ℕ) (e : Decoder A) → e.on_failed ≡ Err Failed
    → Same (and_then (unsigned_decoder o size 0) (λ _. e)) e
none-then o size e failed = rw (unsigned-takes o size 0 (omega arith)) (record {
  reads = λ p b.
      and_then-ok (consume 0 (λ w. Ok (number o w))) (λ _. e) p b 0 (number o [])
      (word_prefix-some 0 (λ w. Ok (number o w)) [] b refl) ∙ longer-none (e.reads (p + 0) (drop 0 b))
      ∙ ap (λ q. e.reads q b) (add-zero p);
  on_failed = and_then-failed (consume 0 (λ w. Ok (number o w))) (λ _. e) ∙ sym failed;
})

-- ---- signed numbers

pub signed-none : (o : Order) (size : ℕ) → Same (fail NoSignBit) (signed_decoder o size 0)
unfolding signed_decoder
signed-none o size = record { reads = λ p b. refl; on_failed = refl }

pub none-signed : (o : Order) (k size : ℕ) → Same (and_then (unsigned_decoder o k 0) (λ _. fail NoSignBit))
    (signed_decoder o size 0)
none-signed o k size = Same-trans (none-then o k (fail NoSignBit) refl) (signed-none o size)

pub unsigned-wide : (o : Order) (size n : ℕ) → size < n → unsigned_decoder o size n ≡ fail ReadBits
unfolding unsigned_decoder
unsigned-wide o size n wide = rw (lt-leb n size wide) refl

pub unsigned-signed : (o : Order) (size n : ℕ) → 0 < n
    → Same (and_then (unsigned_decoder o size n) (λ v. pure (signed_from n v))) (signed_decoder o size n)
unfolding signed_decoder
unsigned-signed o size n some = rw (ne_eqb n 0 (λ e. omega arith)) (elim (cases_lt size n) [
  | inl wide ↦
      let f = λ (v : ℕ). pure (signed_from n v) in
      rw (unsigned-wide o size n wide, lt-leb n size wide)
      (record {
        reads = λ p b. and_then-err (fail ReadBits) f p b 0 ReadBits refl;
        on_failed =
            and_then-failed (fail ReadBits) f;
      })
  | inr le ↦ rw (unsigned-takes o size n le, le-leb n size le)
      (map_takes n (number o) (signed_from n) (λ w. Ok (signed_number o w))
      (λ w len. ap (λ k. Ok (signed_from k (number o w))) len))
])

-- ---- counts

-- the width of a count is the least that holds the greatest
pub count_width_is : (max m : ℕ) → max < 2 ^ m → 2 ^ m ≤ 2 * max + 1 → count_width max ≡ m
count_width_is max m fits least =
    let le : count_width max ≤ m = count_width_least max m fits in
    let holds : max < 2 ^ count_width max = count_fits max in
    elim (cases_lt (count_width max) m) [
      | inl less ↦
          let more : 2 ^ (count_width max + 1) ≤ 2 ^ m = pow-le-pow_right (omega arith) (omega arith) in
          let twice : 2 ^ (count_width max + 1) ≡ 2 ^ count_width max * 2 = pow-add 2 (count_width max) 1 in
          absurd (omega (arith, more, twice, holds, least))
      | inr enough ↦ omega arith
    ]

-- a count whose width is full holds each number of that width
pub full_count : (max n m : ℕ) → max + 1 ≡ 2 ^ n → 2 ^ m ≤ 2 * max + 1 → 2 ^ m ≤ max + 1
full_count max n m full least = elim (cases_lt n m) [
  | inl less ↦
      let more : 2 ^ (n + 1) ≤ 2 ^ m = pow-le-pow_right (omega arith) (omega arith) in
      let twice : 2 ^ (n + 1) ≡ 2 ^ n * 2 = pow-add 2 n 1 in
      absurd (omega (arith, more, twice, full, least))
  | inr le ↦ let more : 2 ^ m ≤ 2 ^ n = pow-le-pow_right (omega arith) le in omega (arith, more, full)
]

pub unsigned-count : (o : Order) (size max n : ℕ) → count_width max ≡ n → n ≤ size
    → Same (and_then (unsigned_decoder o size n) (λ v. pure v)) (count_decoder o max)
unfolding count_decoder
unsigned-count o size max n is le = rw (is, unsigned-takes o size n le)
    (map_takes n (number o) (λ v. v) (λ w. Ok (number o w)) (λ w _. refl))
