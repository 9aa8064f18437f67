-- Calls that read a number and make another of it.
use Rattle.std.specs.Prelude.{ℤ, Bool, ◌==◌, ◌||◌, ◌&&◌}
use Rattle.std.proofs.Common.{◌≡◌, ℕ, zero, suc, ◌+◌, ◌-◌, ◌*◌, ◌/◌, ◌%◌, ◌^◌, ◌<◌, ◌≤◌, [], ◌++◌, length, true, false, Result, Ok, Err, refl, sym, ap, ◌∙◌, subst, arith, inl, inr}
use Rattle.std.specs.Result.{IsErrAnd}
use Rattle.std.proofs.lemmas.Bool.{cases_lt, eqb-true}
use Rattle.std.proofs.lemmas.Nat.{leading_length, pow-add}
use Rattle.std.specs.Int.Count.{count_leading_zeros}
use Rattle.bitstream_count.specs.declared.error.Error.{Error}
use Rattle.bitstream_count.specs.declared.error.Error.TheVariants.{Failed, NoSignBit, ReadBits}
use Rattle.bitstream_count.specs.Codec.{Decoder, Done, pure, fail, consume, word_prefix}
use Rattle.bitstream_number.specs.Word.{Order, number, signed_from, count_width}
use Rattle.bitstream_number.proofs.WordLemmas.{number-lt}
use Rattle.bitstream_order.specs.Moving.Gather.{result_map}
use Rattle.bitstream_stream.specs.Reading.Reads.{BitSource, Reads, ReadDone, had_failed, was_done, was_refused, memory_refused, is_run_too_long}
use Rattle.bitstream_stream.specs.Reading.ReadTable.{unsigned_decoder, signed_decoder, count_decoder, is_full}
use Rattle.bitstream_stream.proofs.Reading.CodecLemmas.{split, word_prefix-some, word_prefix-none}
use Rattle.bitstream_stream.proofs.Reading.ReadsLemmas.{Reads-same, Reads-and_then-ok, Reads-pure, Reads-nothing, exit}
use Rattle.bitstream_stream.proofs.Reading.TableLemmas.{unsigned-takes, unsigned-count, count_width_is, full_count, unsigned-on_failed, unsigned-wide, signed-none, none-signed, unsigned-signed}

-- ---- an encoding that was read

-- a reader that returned a value took a prefix
took : {R A : Type 0} {K : BitSource R} {e : Decoder A} {a : A} {s t : R} → e.on_failed ≡ Err Failed
    → Reads K e s (Ok a) t → ReadDone K.order e (K.state s) (Ok a) (K.state t)
took failed (had_failed h) = let p = h.answer in cc
took failed (was_done h) = h
took failed (was_refused h) = let p = h.answer in cc
took failed (memory_refused g h) = let p = h.answer in cc

-- and has not failed
pub Reads-fine : {R A : Type 0} {K : BitSource R} {e : Decoder A} {a : A} {s t : R} → e.on_failed ≡ Err Failed
    → Reads K e s (Ok a) t → (K.state t).failed ≡ false
Reads-fine failed r = (took failed r).failed

-- a call that fails, on a reader that has not failed before
pub Reads-fail : {R A : Type 0} {K : BitSource R} (x : Error) (s : R) → (K.state s).failed ≡ false
    → is_run_too_long {A = A} (Err x) ≡ false → Reads K (fail {A = A} x) s (Err x) s
Reads-fail {A = A} x s fine short = Reads-nothing (fail {A = A} x) (Err x) s fine short (λ more. refl)

takes-below : (o : Order) (n v : ℕ) {R : Type 0} {K : BitSource R} {s t : R}
    → Reads K (consume n (λ w. Ok (number o w))) s (Ok v) t → v < 2 ^ n
takes-below o n v r = let h = took refl r in elim (split n (h.word ++ [])) [
  | inl short ↦ let none = word_prefix-none n (λ w. Ok (number o w)) (h.word ++ []) short in let some = h.decides [] in
      cc
  | inr cut ↦
      let found : Done n (Ok (number o cut.word)) ≡ Done (length h.word) (Ok v) =
      sym (word_prefix-some n (λ w. Ok (number o w)) cut.word cut.rest cut.len)
      ∙ ap (word_prefix n (λ w. Ok (number o w))) (sym cut.parts) ∙ h.decides [] in
      let is : number o cut.word ≡ v = cc in
      subst (λ k. v < 2 ^ k) cut.len (subst (λ k. k < 2 ^ length cut.word) is (number-lt o cut.word))
]

-- a number that was read is no wider than its type
wide_refuses : (size n v : ℕ) {R : Type 0} {K : BitSource R} {s t : R} → Reads K (fail {A = ℕ} ReadBits) s (Ok v) t
    → ⊥
wide_refuses size n v r = let p = (took refl r).decides [] in cc

pub unsigned-within : (o : Order) (size n v : ℕ) {R : Type 0} {K : BitSource R} {s t : R}
    → Reads K (unsigned_decoder o size n) s (Ok v) t → n ≤ size
unsigned-within o size n v {K = K} {s = s} {t = t} h = elim (cases_lt size n) [
  | inl wide ↦ absurd (wide_refuses size n v (subst (λ e. Reads K e s (Ok v) t) (unsigned-wide o size n wide) h))
  | inr le ↦ le
]

-- a number that was read fits its width
pub unsigned-below : (o : Order) (size n v : ℕ) {R : Type 0} {K : BitSource R} {s t : R}
    → Reads K (unsigned_decoder o size n) s (Ok v) t → v < 2 ^ n
unsigned-below o size n v {K = K} {s = s} {t = t} h = let le = unsigned-within o size n v h in
    takes-below o n v (subst (λ e. Reads K e s (Ok v) t) (unsigned-takes o size n le) h)

-- ---- signed numbers

-- the exit of a `?`, seen by a view
pub map_is : {B C : Type 0} (x : Error) (view : B → C) (r : Result B Error) → IsErrAnd r (λ y. y ≡ x)
    → IsErrAnd (result_map view r) (λ y. y ≡ x)
map_is x view (Ok b) h = absurd h
map_is x view (Err y) h = h

pub signed-stops : (o : Order) (size n : ℕ) {x : Error} {r : Result ℤ Error} {R : Type 0} {K : BitSource R} {s t : R}
    → 0 < n → IsErrAnd r (λ y. y ≡ x) → Reads K (unsigned_decoder o size n) s (Err x) t
    → Reads K (signed_decoder o size n) s r t
signed-stops o size n {r = r} some h k = Reads-same (unsigned-signed o size n some)
    (exit (λ v. pure (signed_from n v)) r h k)

-- a failed reader returns `Failed`, and any other reader rejects a number without a sign
pub signed-failed : (o : Order) (size n : ℕ) {R : Type 0} {K : BitSource R} (s : R) → (K.state s).failed ≡ true
    → Reads K (signed_decoder o size n) s (Err Failed) s
unfolding signed_decoder
signed-failed o size n s h = had_failed (record { failed = h; answer = refl; same = refl })

pub signed-bare : (o : Order) (size n : ℕ) {R : Type 0} {K : BitSource R} (s : R) → n ≡ 0 → (K.state s).failed ≡ false
    → Reads K (signed_decoder o size n) s (Err NoSignBit) s
signed-bare o size n {K = K} s none fine =
    subst (λ m. Reads K (signed_decoder o size m) s (Err NoSignBit) s) (sym none)
    (Reads-same (signed-none o size) (Reads-fail NoSignBit s fine refl))

-- an encoding of no bits before the failure: on a failed reader it returns `Failed`
pub signed-none_stops : (o : Order) (k size n : ℕ) {x : Error} {r : Result ℤ Error} {R : Type 0}
    {K : BitSource R} {s t : R} → n ≡ 0 → IsErrAnd r (λ y. y ≡ x) → Reads K (unsigned_decoder o k 0) s (Err x) t
    → Reads K (signed_decoder o size n) s r t
signed-none_stops o k size n {r = r} {K = K} {s = s} {t = t} none h read =
    subst (λ m. Reads K (signed_decoder o size m) s r t) (sym none)
    (Reads-same (none-signed o k size) (exit (λ _. fail NoSignBit) r h read))

pub signed-refused : (o : Order) (k size n v : ℕ) {R : Type 0} {K : BitSource R} {s t : R} → n ≡ 0
    → Reads K (unsigned_decoder o k 0) s (Ok v) t → Reads K (signed_decoder o size n) s (Err NoSignBit) t
signed-refused o k size n v {K = K} {s = s} {t = t} none read =
    subst (λ m. Reads K (signed_decoder o size m) s (Err NoSignBit) t) (sym none)
    (Reads-same (none-signed o k size) (Reads-and_then-ok _ (λ _. fail NoSignBit) read
    (Reads-fail NoSignBit t (Reads-fine (unsigned-on_failed o k 0) read) refl)))

pub signed-was_done : (o : Order) (size n v : ℕ) (z : ℤ) {R : Type 0} {K : BitSource R} {s t : R} → 0 < n → z
    ≡ signed_from n v → Reads K (unsigned_decoder o size n) s (Ok v) t → Reads K (signed_decoder o size n) s (Ok z) t
signed-was_done o size n v z {K = K} {s = s} {t = t} some is h =
    subst (λ x. Reads K (signed_decoder o size n) s (Ok x) t) (sym is)
    (Reads-same (unsigned-signed o size n some) (Reads-and_then-ok _ (λ k. pure (signed_from n k)) h
    (Reads-pure _ _)))

-- ---- counts

-- a count's width, as its greatest number's leading zeros tell it
pub width_by_zeros : (max zeros : ℕ) → max < 2 ^ 32 → zeros ≡ count_leading_zeros 32 max → 32 - zeros ≡ count_width max
width_by_zeros max zeros fits is =
    let parts = leading_length 32 max fits in
    let m : parts.0 ≡ 32 - zeros = let sum = parts.1 in omega (arith, sum, is) in
    sym (count_width_is max parts.0 parts.2 parts.3 ∙ m)

width_least : (max : ℕ) → max < 2 ^ 32 → 2 ^ count_width max ≤ 2 * max + 1
width_least max fits =
    let parts = leading_length 32 max fits in
    subst (λ k. 2 ^ k ≤ 2 * max + 1) (sym (count_width_is max parts.0 parts.2 parts.3)) parts.3

pub count-stops : (o : Order) (max n : ℕ) {x : Error} {r : Result ℕ Error} {R : Type 0} {K : BitSource R} {s t : R} → n
    ≡ count_width max → n ≤ 32 → IsErrAnd r (λ y. y ≡ x) → Reads K (unsigned_decoder o 32 n) s (Err x) t
    → Reads K (count_decoder o max) s r t
count-stops o max n {r = r} is le h k = Reads-same (unsigned-count o 32 max n (sym is) le) (exit (λ v. pure v) r h k)

pub count-was_done : (o : Order) (max n v c : ℕ) {R : Type 0} {K : BitSource R} {s t : R} → n ≡ count_width max → n ≤ 32
    → c ≡ v → Reads K (unsigned_decoder o 32 n) s (Ok v) t → Reads K (count_decoder o max) s (Ok c) t
count-was_done o max n v c {K = K} {s = s} {t = t} is le same h =
    subst (λ k. Reads K (count_decoder o max) s (Ok k) t) (sym same)
    (Reads-same (unsigned-count o 32 max n (sym is) le) (Reads-and_then-ok _ (λ k. pure k) h (Reads-pure _ _)))

full_none : (n : ℕ) → (n == 0) ≡ true → (k : ℕ) × (n + 1 ≡ 2 ^ k)
full_none n h = let none = eqb-true n 0 h in (0, omega arith)

full_more : (n : ℕ) (none odd more : Bool) → (n == 0) ≡ none → (n % 2 == 1) ≡ odd
    → (more ≡ true → (k : ℕ) × (n / 2 + 1 ≡ 2 ^ k)) → (none || (odd && more)) ≡ true → (k : ℕ) × (n + 1 ≡ 2 ^ k)
full_more n true odd more is one half h = full_none n is
full_more n false false more is one half h = absurd (cc)
full_more n false true false is one half h = absurd (cc)
full_more n false true true is one half h =
    let power = half refl in
    let digit = eqb-true (n % 2) 1 one in
    let twice : 2 ^ (power.0 + 1) ≡ 2 ^ power.0 * 2 = pow-add 2 power.0 1 in
    (power.0 + 1, omega (arith, power.1, twice, digit))

-- a number whose digits are all 1 is 1 less than a power of two
full_power : (d n : ℕ) → is_full d n ≡ true → (k : ℕ) × (n + 1 ≡ 2 ^ k)
full_power zero n h = full_none n h
full_power (suc d) n h = full_more n (n == 0) (n % 2 == 1) (is_full d (n / 2)) refl refl (full_power d (n / 2)) h

-- a number of a full count's width is a count
pub count_never_above : (o : Order) (max m v : ℕ) {R : Type 0} {K : BitSource R} {s t : R} → max < 2 ^ 32
    → is_full 32 max ≡ true → m ≡ count_width max → Reads K (unsigned_decoder o 32 m) s (Ok v) t → max < v → ⊥
count_never_above o max m v fits one is h above =
    let power = full_power 32 max one in
    let n = power.0 in
    let full = power.1 in
    let below = unsigned-below o 32 m v h in
    let least : 2 ^ m ≤ 2 * max + 1 = subst (λ k. 2 ^ k ≤ 2 * max + 1) (sym is) (width_least max fits) in
    let most = full_count max n m full least in
    omega (arith, below, most, above)
