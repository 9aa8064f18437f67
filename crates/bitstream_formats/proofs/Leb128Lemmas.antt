-- The numbers `leb128()` go back, and the groups of a read stay in their type.
use Rattle.std.proofs.Common.{◌*◌, ◌/◌, ◌%◌, ◌≤◌, zero, suc, length, sym, subst, pow-suc}
use Rattle.std.specs.Prelude.{Result, nat_lt, if◌then◌else◌}
use Rattle.std.proofs.Common.{append-nil}
use Rattle.std.proofs.lemmas.Bool.{cases_lt, le-leb, le-ltb, lt-ltb}
use native.Mathlib.Nat.{div-add-mod, mul-add, mul_assoc, mul_comm, mul-le-mul_left, one-le-pow}
use Rattle.bitstream_io.specs.Vbr.{groups}
use Rattle.bitstream_io.proofs.WriteLemmas.{unsigned-fits}
use Rattle.bitstream_io.specs.Callers.{BitSource, ReadsOwn, Encoder, and_then, pure, unsigned, unsigned_decoder, word, write_sequence}
use Rattle.bitstream_io.proofs.CallerLemmas.{◌≡◌, ◌∙◌, ℕ, ◌+◌, ◌-◌, ◌^◌, ◌<◌, List, [], ◌∷◌, Ok, Order, RoundTrip, ap, arith, inl, inr, computed-back, unsigned-back, refl}
use Rattle.bitstream_formats.specs.Leb128.{becomes_av1, groups_decoder, leb128_decoder, leb128_writes, small}
use Rattle.bitstream_formats.specs.declared.av1.Av1Error.{Av1Error}

-- the bytes of a number, at most `more` and one
abbrev group_writes : ℕ → Order → ℕ → List Encoder
group_writes zero o v = unsigned o 64 8 v ∷ []
group_writes (suc more) o v =
    if nat_lt v 128 then unsigned o 64 8 v ∷ []
    else unsigned o 64 8 (128 + v % 128) ∷ group_writes more o (v / 128)

byte_word : (o : Order) (v len : ℕ) → v < 256 → write_sequence (unsigned o 64 8 v ∷ []) len ≡ word o 8 v
byte_word o v len less = rw (unsigned-fits o 64 8 v len (omega arith) less, append-nil (word o 8 v)) refl

-- they are the word of the number
groups_written : (more : ℕ) (o : Order) (v len : ℕ) → v ≤ more → write_sequence (group_writes more o v) len ≡ groups more o 8 v
unfolding groups
groups_written zero o v len le = byte_word o v len (omega (arith, le))
groups_written (suc more) o v len le = elim (cases_lt v 128) [
  | inl less ↦ rw (lt-ltb v 128 less) (byte_word o v len (omega (arith, less)))
  | inr enough ↦
      let low : 128 + v % 128 < 2 ^ 8 = omega arith in
      rw (
        le-ltb v 128 enough,
        unsigned-fits o 64 8 (128 + v % 128) len (omega arith) low,
        groups_written more o (v / 128) (len + length (word o 8 (128 + v % 128))) (omega (arith, le, enough)),
      ) refl
]

small-is : (n m : ℕ) → n ≡ m → m < 2 ^ 32 → small n ≡ Ok m
small-is n m is less = rw (is, le-leb m (2 ^ 32 - 1) (omega arith)) refl

-- a number by its lowest group and the others
by_groups : (value place v : ℕ)
    → (value + place * (128 + v % 128 - 128)) + (128 * place) * (v / 128) ≡ value + place * v
by_groups value place v =
    let low : 128 + v % 128 - 128 ≡ v % 128 = omega arith in
    let split : 128 * (v / 128) + v % 128 ≡ v = div-add-mod v 128 in
    let parts : place * (128 * (v / 128) + v % 128) ≡ place * (128 * (v / 128)) + place * (v % 128) = mul-add place (128 * (v / 128)) (v % 128) in
    let high : (128 * place) * (v / 128) ≡ place * (128 * (v / 128)) =
    ap (λ n. n * (v / 128)) (mul_comm 128 place) ∙ mul_assoc place 128 (v / 128) in
    let whole : place * (128 * (v / 128)) + place * (v % 128) ≡ place * v = sym parts ∙ ap (λ n. place * n) split in
    rw low (omega (arith, high, whole))

-- a number of one byte is read back
one-back : (o : Order) (more room value place v : ℕ) → v < 128 → value + place * v < 2 ^ 32
    → RoundTrip (groups_decoder o (suc room) place value) (group_writes more o v) (Ok (value + place * v))
one-back o zero room value place v few less =
    unsigned-back o 8 _ _ 64 v _ refl (omega (arith, few))
    (rw (lt-ltb v 128 few) (computed-back _ _ (small-is _ _ refl less)))
one-back o (suc more) room value place v few less =
    rw (lt-ltb v 128 few)
    (unsigned-back o 8 _ _ 64 v _ refl (omega (arith, few))
    (rw (lt-ltb v 128 few) (computed-back _ _ (small-is _ _ refl less))))

-- the bytes of a number are read back
groups-back : (o : Order) (more room value place v : ℕ) → v ≤ more → v < 128 ^ suc room → value + place * v < 2 ^ 32
    → RoundTrip (groups_decoder o (suc room) place value) (group_writes more o v) (Ok (value + place * v))
groups-back o zero room value place v le fits less = one-back o zero room value place v (omega (arith, le)) less
groups-back o (suc more) zero value place v le fits less =
    one-back o (suc more) zero value place v (omega (arith, fits)) less
groups-back o (suc more) (suc room) value place v le fits less = elim (cases_lt v 128) [
  | inl few ↦ one-back o (suc more) (suc room) value place v few less
  | inr enough ↦
      let low : 128 + v % 128 < 2 ^ 8 = omega arith in
      let same = by_groups value place v in
      let few : v / 128 < 128 ^ suc room = omega (arith, fits, pow-suc 128 (suc room)) in
      let others : RoundTrip (groups_decoder o (suc room) (128 * place) (value + place * (128 + v % 128 - 128))) (group_writes more o (v / 128)) (Ok (value + place * v)) =
      subst (λ n. RoundTrip (groups_decoder o (suc room) (128 * place) (value + place * (128 + v % 128 - 128))) (group_writes more o (v / 128)) (Ok n)) same
      (groups-back o more room (value + place * (128 + v % 128 - 128)) (128 * place) (v / 128) (omega (arith, le, enough)) few (omega (arith, same, less))) in
      rw (le-ltb v 128 enough)
      (unsigned-back o 8 _ _ 64 (128 + v % 128) _ refl low
      (rw (le-ltb (128 + v % 128) 128 (omega arith)) others))
]

pub leb128-back : (o : Order) (value : ℕ) → value < 2 ^ 32 → RoundTrip (leb128_decoder o) (leb128_writes o value) (Ok value)
leb128-back o value less = record {
  back = λ len p more.
      let same : write_sequence (group_writes value o value) len ≡ write_sequence (leb128_writes o value) len =
      groups_written value o value len (omega arith) ∙ sym (append-nil (groups value o 8 value)) in
      let one : 0 + 1 * value ≡ value = omega arith in
      let back : RoundTrip (leb128_decoder o) (group_writes value o value) (Ok value) =
      subst (λ n. RoundTrip (leb128_decoder o) (group_writes value o value) (Ok n)) one
      (groups-back o value 7 0 1 value (omega arith) (omega arith) (omega arith)) in
      rw (← same) (back.back len p more);
}

-- the groups that are read stay in their type
pub product_less : (place n : ℕ) → n < 128 → place * n ≤ 127 * place
product_less place n less =
    let most : place * n ≤ place * 127 = mul-le-mul_left place (omega (arith, less)) in
    omega (arith, most)

pub place_less : (place room : ℕ) → 0 < room → place * 128 ^ room ≤ 2 ^ 56 → 128 * place ≤ 2 ^ 56
place_less place zero some enough = absurd (omega (arith, some))
place_less place (suc room) some enough =
    let one : place * 128 * 1 ≤ place * 128 * 128 ^ room = mul-le-mul_left (place * 128) (one-le-pow room 128 (omega arith)) in
    let same : place * 128 * 128 ^ room ≡ place * 128 ^ suc room =
    mul_assoc place 128 (128 ^ room) ∙ ap (λ n. place * n) (mul_comm 128 (128 ^ room) ∙ sym (pow-suc 128 room)) in
    omega (arith, one, same, enough)

pub room_less : (place room : ℕ) → 0 < room → place * 128 ^ room ≤ 2 ^ 56 → 128 * place * 128 ^ (room - 1) ≤ 2 ^ 56
room_less place zero some enough = absurd (omega (arith, some))
room_less place (suc room) some enough =
    let one : suc room - 1 ≡ room = omega arith in
    let same : 128 * place * 128 ^ room ≡ place * 128 ^ suc room =
    ap (λ n. n * 128 ^ room) (mul_comm 128 place) ∙ mul_assoc place 128 (128 ^ room)
    ∙ ap (λ n. place * n) (mul_comm 128 (128 ^ room) ∙ sym (pow-suc 128 room)) in
    rw (one, same) enough

-- a byte, and the groups after it
pub groups_own : {R : Type 0} {K : BitSource R} {s t : R} {r : Result ℕ Av1Error} (o : Order) (room place value : ℕ)
    → 0 < room
    → ReadsOwn K becomes_av1 (and_then (unsigned_decoder o 64 8) (λ byte.
    if nat_lt byte 128 then pure (small (value + place * byte))
    else groups_decoder o (room - 1) (128 * place) (value + place * (byte - 128)))) s r t
    → ReadsOwn K becomes_av1 (groups_decoder o room place value) s r t
groups_own o zero place value some reads = absurd (omega (arith, some))
groups_own o (suc room) place value some reads =
    let one : suc room - 1 ≡ room = omega arith in
    rw one at reads
