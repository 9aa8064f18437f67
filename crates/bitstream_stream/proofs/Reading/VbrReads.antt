-- Reading groups one after another, as a loop does.
use Rattle.std.specs.Prelude.{ℤ, bit_or, ◌&&◌}
use Rattle.std.proofs.Common.{◌≡◌, ℕ, suc, ◌+◌, ◌-◌, ◌*◌, ◌/◌, ◌%◌, ◌^◌, ◌<◌, ◌≤◌, inl, inr, Bool, true, false, cond, ltb, List, length, drop, Result, Ok, Err, refl, sym, ap, ◌∙◌, subst, arith, add-zero}
use Rattle.std.specs.Int.{div_ceil}
use Rattle.std.proofs.Math.Nat.{div-eq_of_lt, mod-eq_of_lt, mod-lt, zero-div, zero-mod, add-div_right, add-mod_right, pow-le-pow_right, mul-le-mul_left}
use Rattle.std.proofs.Math.Seq.{drop-append_seam}
use Rattle.std.proofs.lemmas.Bool.{cases_lt, cond-true, cond-false, lt-ltb, le-ltb}
use Rattle.std.proofs.lemmas.Nat.{pow-add, pow_pos, or_lt}
use Rattle.bitstream_number.specs.Word.{Order, number, zag}
use Rattle.bitstream_count.specs.declared.error.Error.{Error}
use Rattle.bitstream_count.specs.declared.error.Error.TheVariants.{Failed, VariableWidthOverflow, RedundantGroup}
use Rattle.bitstream_count.specs.Codec.{Decoder, Prefix, Incomplete, Done, prefix_then, advance, call, consume, and_then, pure}
use Rattle.bitstream_count.specs.Vbr.{join_groups, before, below, groups_at}
use Rattle.bitstream_count.proofs.VbrLemmas.{groups_at_step}
use Rattle.bitstream_stream.specs.Reading.Reads.{BitSource, Reads, had_failed, is_run_too_long}
use Rattle.bitstream_stream.specs.Groups.{rejects}
use Rattle.bitstream_stream.specs.Reading.ReadTable.{unsigned_decoder, groups_decoder, signed_groups_decoder}
use Rattle.bitstream_stream.proofs.Reading.CodecLemmas.{Same, Split, split, and_then-ok, and_then-none, and_then-failed, word_prefix-some, word_prefix-none}
use Rattle.bitstream_stream.proofs.Reading.ReadsLemmas.{Reads-same, Reads-and_then-ok, Reads-and_then-err, Reads-pure, Reads-nothing}
use Rattle.bitstream_stream.proofs.Reading.SignedLemmas.{unsigned-below}
use Rattle.bitstream_stream.proofs.Reading.TableLemmas.{unsigned-takes}
use Rattle.bitstream_stream.proofs.Reading.GroupLemmas.{placed_fits, placed_past, placed_sum, sum_fits, last_group, group_more, none_behind, stays_below}

-- ---- a result without a call

abbrev answers : {A : Type 0} → Result A Error → Decoder A
answers r = record { reads = λ _ _. Done 0 r; on_failed = r; allocates = λ _ _. false }

answers-by : {R A : Type 0} {K : BitSource R} (r : Result A Error) (s : R) (v : Bool) → is_run_too_long r ≡ false
    → (K.state s).failed ≡ v → Reads K (answers r) s r s
answers-by r s true short h = had_failed (record { failed = h; answer = refl; same = refl })
answers-by r s false short h = Reads-nothing (answers r) r s h short (λ more. refl)

Reads-answers : {R A : Type 0} {K : BitSource R} (r : Result A Error) (s : R) → is_run_too_long r ≡ false
    → Reads K (answers r) s r s
Reads-answers {K = K} r s short = answers-by r s (K.state s).failed short refl

-- ---- the bits after some groups

-- a number, or why it is none of the type
abbrev pub number_below : ℕ → ℕ → Result ℕ Error
number_below limit v = cond (ltb v limit) (Ok v) (Err VariableWidthOverflow)

short_number : (b : Bool) (v : ℕ) → is_run_too_long (cond b (Ok v) (Err VariableWidthOverflow)) ≡ false
short_number true v = refl
short_number false v = refl

-- the number of all groups, or why they are none
abbrev pub number_of : Bool → ℕ → ℕ → ℕ → ℕ → Result ℕ Error
number_of strict limit value shift high =
    cond (rejects strict shift high) (Err RedundantGroup) (number_below limit (value + 2 ^ shift * high))

short_number_of : (b c : Bool) (v : ℕ)
    → is_run_too_long (cond b (Err RedundantGroup) (cond c (Ok v) (Err VariableWidthOverflow))) ≡ false
short_number_of true c v = refl
short_number_of false c v = short_number c v

and_none : (b : Bool) → b && false ≡ false
and_none true = refl
and_none false = refl

-- the first group may be 0
first_stays : (strict : Bool) (high : ℕ) → rejects strict 0 high ≡ false
first_stays false high = refl
first_stays true high = and_none (ltb high 1)

-- a prefix after groups that gave the lowest `shift` digits
abbrev ahead : Bool → ℕ → ℕ → ℕ → Prefix ℕ → Prefix ℕ
ahead strict limit value shift Incomplete = Incomplete
ahead strict limit value shift (Done n (Ok high)) = Done n (number_of strict limit value shift high)
ahead strict limit value shift (Done n (Err e)) = Done n (Err e)

-- what is read there
unfoldable pub rest_decoder : Bool → Order → ℕ → ℕ → ℕ → ℕ → ℕ → Decoder ℕ
rest_decoder strict o field size limit value shift =
    call (λ _ bits. ahead strict limit value shift (groups_at strict (div_ceil (size - shift) (field - 1)) o field bits))

ahead-start : (strict : Bool) (limit : ℕ) (prefix : Prefix ℕ) → ahead strict limit 0 0 prefix ≡ below limit prefix
ahead-start strict limit Incomplete = refl
ahead-start strict limit (Done n (Ok high)) =
    ap (λ b. Done n (cond b (Err RedundantGroup) (number_below limit (0 + 2 ^ 0 * high)))) (first_stays strict high)
    ∙ ap (λ v. Done n (number_below limit v)) (omega arith)
ahead-start strict limit (Done n (Err e)) = refl

rest-start : (strict : Bool) (o : Order) (field size limit : ℕ) → Same (rest_decoder strict o field size limit 0 0)
    (groups_decoder strict o field size limit)
unfolding rest_decoder groups_decoder
rest-start strict o field size limit = record {
  reads = λ p bits.
      let all : size - 0 ≡ size = omega arith in
      ap (λ n. ahead strict limit 0 0 (groups_at strict (div_ceil n (field - 1)) o field bits)) all
      ∙ ahead-start strict limit (groups_at strict (div_ceil size (field - 1)) o field bits);
  on_failed = refl;
}

-- a group that is not the last, before groups that stand for `high`
number-joined : (strict : Bool) (limit value shift field low high n : ℕ) → 2 ≤ field
    → ahead strict limit value shift (Done n (join_groups strict field low high))
    ≡ Done n (number_of strict limit (value + 2 ^ shift * low) (shift + (field - 1)) high)
number-joined false limit value shift field low high n wide =
    let same : value + 2 ^ shift * (low + 2 ^ (field - 1) * high)
    ≡ value + 2 ^ shift * low + 2 ^ (shift + (field - 1)) * high = rw (pow-add 2 shift (field - 1)) (omega arith) in
    ap (λ v. Done n (number_below limit v)) same
number-joined true limit value shift field low high n wide = elim (cases_lt high 1) [
  | inl none ↦ rw (lt-ltb high 1 none, lt-ltb 0 (shift + (field - 1)) (omega arith)) refl
  | inr some ↦
      let same : value + 2 ^ shift * (low + 2 ^ (field - 1) * high)
      ≡ value + 2 ^ shift * low + 2 ^ (shift + (field - 1)) * high = rw (pow-add 2 shift (field - 1)) (omega arith) in
      let part : 1 ≤ low + 2 ^ (field - 1) * high =
      omega (arith, mul-le-mul_left (2 ^ (field - 1)) some, pow_pos (field - 1)) in
      rw (le-ltb high 1 some, le-ltb (low + 2 ^ (field - 1) * high) 1 part)
      (ap (λ v. Done n (number_below limit v)) same)
]

ahead-before : (strict : Bool) (limit value shift field low : ℕ) → 2 ≤ field → (prefix : Prefix ℕ)
    → ahead strict limit value shift (before strict field low prefix)
    ≡ advance field (ahead strict limit (value + 2 ^ shift * low) (shift + (field - 1)) prefix)
ahead-before strict limit value shift field low wide Incomplete = refl
ahead-before strict limit value shift field low wide (Done n (Ok high)) =
    number-joined strict limit value shift field low high (field + n) wide
ahead-before strict limit value shift field low wide (Done n (Err e)) = refl

ceil_step : (n m : ℕ) → 0 < n → 0 < m → div_ceil n m ≡ suc (div_ceil (n - m) m)
ceil_step n m some wide =
    elim (cases_lt n m) [
      | inl small ↦
          let none : n - m ≡ 0 = omega arith in
          rw (none, div-eq_of_lt small, mod-eq_of_lt small, zero-div m, zero-mod m) (omega arith)
      | inr large ↦
          let parts : n ≡ (n - m) + m = omega arith in
          omega (
            arith,
            ap (λ k. k / m) parts ∙ add-div_right (n - m) wide,
            ap (λ k. k % m) parts
                ∙ add-mod_right (n - m) m,
          )
    ]

-- no group more begins within the type
no_room : (size shift m : ℕ) → size ≤ shift → div_ceil (size - shift) m ≡ 0
no_room size shift m past =
    let none : size - shift ≡ 0 = omega arith in
    rw (none, zero-div m, zero-mod m) refl

-- then none is looked at, whatever the groups gave
rest-past : (strict : Bool) (o : Order) (field size limit value shift p : ℕ) (bits : List Bool) → size ≤ shift
    → (rest_decoder strict o field size limit value shift).reads p bits ≡ Done 0 (Err VariableWidthOverflow)
unfolding rest_decoder groups_at
rest-past strict o field size limit value shift p bits past =
    ap (λ r. ahead strict limit value shift (groups_at strict r o field bits)) (no_room size shift (field - 1) past)

rest-any : (strict : Bool) (o : Order) (field size limit u v shift : ℕ) → size ≤ shift
    → Same (rest_decoder strict o field size limit u shift) (rest_decoder strict o field size limit v shift)
unfolding rest_decoder
rest-any strict o field size limit u v shift past =
    record {
      reads = λ p bits. rest-past strict o field size limit u shift p bits past
          ∙ sym (rest-past strict o field size limit v shift p bits past);
      on_failed = refl;
    }

-- what follows a group
abbrev behind_group : Bool → Order → ℕ → ℕ → ℕ → ℕ → ℕ → ℕ → Decoder ℕ
behind_group strict o field size limit value shift group =
    cond (ltb group (2 ^ (field - 1))) (answers (number_of strict limit value shift group))
    (rest_decoder strict o field size limit (value + 2 ^ shift * (group - 2 ^ (field - 1))) (shift + (field - 1)))

module _ (strict : Bool) (o : Order) (field size limit : ℕ) (wide : 2 ≤ field) (within : field ≤ size) where
  rest-step : (value shift p : ℕ) (bits : List Bool) → shift < size
      → (rest_decoder strict o field size limit value shift).reads p bits
      ≡ ahead strict limit value shift (groups_at strict (suc (div_ceil (size - (shift + (field - 1))) (field - 1))) o
      field bits)
  unfolding rest_decoder
  rest-step value shift p bits begins =
      let room = ceil_step (size - shift) (field - 1) (omega arith) (omega arith)
      ∙ ap (λ n. suc (div_ceil n (field - 1))) (omega arith) in
      ap (λ r. ahead strict limit value shift (groups_at strict r o field bits)) room

  none_left : (room : ℕ) (bits : List Bool) → length bits < field → groups_at strict (suc room) o field bits ≡ Incomplete
  unfolding groups_at
  none_left room bits short = rw (lt-ltb (length bits) field short) refl

  rest-on_failed : (value shift : ℕ) → (rest_decoder strict o field size limit value shift).on_failed ≡ Err Failed
  unfolding rest_decoder
  rest-on_failed value shift = refl

  -- the prefix of what is left, by its first group
  first_group : (value shift p : ℕ) (bits : List Bool) → shift < size → (s : Split field bits)
      → advance field ((behind_group strict o field size limit value shift (number o s.word)).reads (p + field) s.rest)
      ≡ (rest_decoder strict o field size limit value shift).reads p bits
  unfolding rest_decoder
  first_group value shift p bits begins s =
      let room = div_ceil (size - (shift + (field - 1))) (field - 1) in
      let g = number o s.word in
      let whole = rest-step value shift p bits begins
      ∙ ap (λ b. ahead strict limit value shift (groups_at strict (suc room) o field b)) s.parts
      ∙ ap (ahead strict limit value shift)
      (groups_at_step o field (omega arith) strict room s.word s.rest s.len) in
      elim (cases_lt g (2 ^ (field - 1))) [
        | inl last ↦ sym (whole ∙ rw (lt-ltb g (2 ^ (field - 1)) last)
            (ap (λ n. Done n (number_of strict limit value shift g)) (sym (add-zero field))))
        | inr more ↦ sym (whole ∙ rw (le-ltb g (2 ^ (field - 1)) more)
            (ahead-before strict limit value shift field (g - 2 ^ (field - 1)) wide
            (groups_at strict room o field s.rest)))
      ]

  group-then : (value shift : ℕ) → shift < size → Same
      (and_then (unsigned_decoder o size field) (behind_group strict o field size limit value shift))
      (rest_decoder strict o field size limit value shift)
  group-then value shift begins = rw (unsigned-takes o size field within) (record {
    reads = λ p bits. elim (split field bits) [
      | inl short ↦
          and_then-none (consume field (λ w. Ok (number o w))) (behind_group strict o field size limit value shift) p bits
          (word_prefix-none field (λ w. Ok (number o w)) bits short)
          ∙ sym (rest-step value shift p bits begins ∙ ap (ahead strict limit value shift)
          (none_left (div_ceil (size - (shift + (field - 1))) (field - 1)) bits short))
      | inr s ↦
          let first : (consume field (λ w. Ok (number o w))).reads p bits ≡ Done field (Ok (number o s.word)) =
          rw s.parts (word_prefix-some field (λ w. Ok (number o w)) s.word s.rest s.len) in
          let rest : drop field bits ≡ s.rest = rw (s.parts, ← s.len) (drop-append_seam s.word s.rest) in
          and_then-ok (consume field (λ w. Ok (number o w))) (behind_group strict o field size limit value shift) p bits
          field (number o s.word) first
          ∙ ap (λ b. advance field
          ((behind_group strict o field size limit value shift (number o s.word)).reads (p + field) b)) rest
          ∙ first_group value shift p bits begins s
    ];
    on_failed = and_then-failed (consume field (λ w. Ok (number o w))) (behind_group strict o field size limit value shift)
        ∙ sym (rest-on_failed value shift);
  })

-- ---- a group that was read as a byte

pub short_group-stops : {R : Type 0} {K : BitSource R} {s t : R} (o : Order) (field size : ℕ) (x : Error) → field ≤ 8
    → field ≤ size → Reads K (unsigned_decoder o 8 field) s (Err x) t → Reads K (unsigned_decoder o size field) s (Err x) t
short_group-stops {K = K} {s = s} {t = t} o field size x short within h =
    subst (λ e. Reads K e s (Err x) t) (unsigned-takes o 8 field short ∙ sym (unsigned-takes o size field within)) h

-- it is its byte's number in the wider type
pub short_group-takes : {R : Type 0} {K : BitSource R} {s t : R} (o : Order) (field size v w : ℕ) → field ≤ 8
    → field ≤ size → (v < 256 → w ≡ v) → Reads K (unsigned_decoder o 8 field) s (Ok v) t
    → Reads K (unsigned_decoder o size field) s (Ok w) t
short_group-takes {K = K} {s = s} {t = t} o field size v w short within same h =
    let wide : 2 ^ field ≤ 256 = pow-le-pow_right (omega arith) short in
    let below : v < 256 = omega (arith, wide, unsigned-below o 8 field v h) in
    subst (λ k. Reads K (unsigned_decoder o size field) s (Ok k) t) (sym (same below))
    (subst (λ e. Reads K e s (Ok v) t) (unsigned-takes o 8 field short ∙ sym (unsigned-takes o size field within)) h)

-- ---- the loop

-- what is read of the rest is what the call reads
pub Told : {R : Type 0} → BitSource R → Bool → ℕ → ℕ → ℕ → R → ℕ → ℕ → R → Type 0
Told {R} K strict field size limit s value shift t = (r : Result ℕ Error) (z : R)
    → Reads K (rest_decoder strict K.order field size limit value shift) t r z
    → Reads K (groups_decoder strict K.order field size limit) s r z

module _ {R : Type 0} (K : BitSource R) (strict : Bool) (field size limit : ℕ) where
  pub told-start : (s : R) → Told K strict field size limit s 0 0 s
  unfolding Told
  told-start s r z h = Reads-same (rest-start strict K.order field size limit) h

  -- where no group more begins within the type, what the groups gave does not matter
  told-any : (s t : R) (u v shift : ℕ) → size ≤ shift → Told K strict field size limit s u shift t
      → Told K strict field size limit s v shift t
  unfolding Told
  told-any s t u v shift past told r z h =
      told r z (Reads-same (rest-any strict K.order field size limit v u shift past) h)

  pub told-end : (s t : R) (value shift : ℕ) → size ≤ shift → (K.state t).failed ≡ false
      → Told K strict field size limit s value shift t → Reads K (groups_decoder strict K.order field size limit) s
      (Err VariableWidthOverflow) t
  unfolding Told
  told-end s t value shift past fine told =
      told (Err VariableWidthOverflow) t (Reads-nothing (rest_decoder strict K.order field size limit value shift)
      (Err VariableWidthOverflow) t fine refl (λ more. rest-past strict K.order field size limit value shift
      (K.state t).taken more past))

  module _ (wide : 2 ≤ field) (within : field ≤ size) (s t z : R) (value shift : ℕ) (begins : shift < size)
      (told : Told K strict field size limit s value shift t) where
    pub told-stop : (x : Error) → Reads K (unsigned_decoder K.order size field) t (Err x) z
        → Reads K (groups_decoder strict K.order field size limit) s (Err x) z
    unfolding Told
    told-stop x h = told (Err x) z
        (Reads-same (group-then strict K.order field size limit wide within value shift begins)
        (Reads-and_then-err _ (behind_group strict K.order field size limit value shift) h))

    -- a group was read
    told-group : (group : ℕ) (r : Result ℕ Error) (y : R) → Reads K (unsigned_decoder K.order size field) t (Ok group) z
        → Reads K (behind_group strict K.order field size limit value shift group) z r y
        → Reads K (groups_decoder strict K.order field size limit) s r y
    unfolding Told
    told-group group r y h k = told r y
        (Reads-same (group-then strict K.order field size limit wide within value shift begins)
        (Reads-and_then-ok _ (behind_group strict K.order field size limit value shift) h k))

    told-last : (group : ℕ) → group < 2 ^ (field - 1) → Reads K (unsigned_decoder K.order size field) t (Ok group) z
        → Reads K (groups_decoder strict K.order field size limit) s (number_of strict limit value shift group) z
    told-last group last h =
        let r = number_of strict limit value shift group in
        told-group group r z h (subst (λ e. Reads K e z r z)
        (sym (cond-true _ _ _ (lt-ltb group (2 ^ (field - 1)) last)))
        (Reads-answers r z (short_number_of (rejects strict shift group) (ltb (value + 2 ^ shift * group) limit)
        (value + 2 ^ shift * group))))

    told-more : (group : ℕ) → 2 ^ (field - 1) ≤ group → Reads K (unsigned_decoder K.order size field) t (Ok group) z
        → Told K strict field size limit s (value + 2 ^ shift * (group - 2 ^ (field - 1))) (shift + (field - 1)) z
    unfolding Told
    told-more group more h = λ r y k. told-group group r y h
        (subst (λ e. Reads K e z r y) (sym (cond-false _ _ _ (le-ltb group (2 ^ (field - 1)) more))) k)

-- ---- one turn of it, where the limit is that of the type

-- a group was read, and its digits were put above those of the groups before
pub record Turn {R : Type 0} (K : BitSource R) (strict : Bool) (field size m : ℕ) (s t z : R)
    (value shift group digits placed next : ℕ) : Type 0 where
  pub wide : 2 ≤ field
  pub within : field ≤ size
  pub payload : m ≡ field - 1
  pub begins : shift < size
  pub told : Told K strict field size (2 ^ size) s value shift t
  pub small : value < 2 ^ shift
  pub read : Reads K (unsigned_decoder K.order size field) t (Ok group) z
  pub low : digits ≡ group % 2 ^ m
  pub shifted : placed ≡ digits * 2 ^ shift % 2 ^ size
  pub joined : next ≡ bit_or value placed

module _ {R : Type 0} {K : BitSource R} {strict : Bool} {field size m : ℕ} {s t z : R}
    {value shift group digits placed next : ℕ}
    (turn : Turn K strict field size m s t z value shift group digits placed next) where
  -- it was the last one
  turn_last : (r : Result ℕ Error) → group ≡ digits → number_of strict (2 ^ size) value shift digits ≡ r
      → Reads K (groups_decoder strict K.order field size (2 ^ size)) s r z
  turn_last r last is =
      let ends : group < 2 ^ (field - 1) = subst (λ k. group < 2 ^ k) turn.payload
      (last_group m group digits turn.low last) in
      subst (λ r. Reads K (groups_decoder strict K.order field size (2 ^ size)) s r z) is
      (subst (λ g. Reads K (groups_decoder strict K.order field size (2 ^ size)) s
      (number_of strict (2 ^ size) value shift g) z) last
      (told-last K strict field size (2 ^ size) turn.wide turn.within s t z value shift turn.begins turn.told group ends
      turn.read))

  pub turn-redundant : group ≡ digits → rejects strict shift digits ≡ true
      → Reads K (groups_decoder strict K.order field size (2 ^ size)) s (Err RedundantGroup) z
  turn-redundant last none = turn_last (Err RedundantGroup) last (cond-true _ _ _ none)

  pub turn-ends : group ≡ digits → rejects strict shift digits ≡ false → placed / 2 ^ shift ≡ digits
      → Reads K (groups_decoder strict K.order field size (2 ^ size)) s (Ok next) z
  turn-ends last some back =
      let fits = placed_fits size shift digits placed turn.shifted back in
      let sum = placed_sum size shift value digits placed next turn.small fits turn.shifted turn.joined in
      let begins = turn.begins in
      let below = sum_fits size shift value digits (omega (arith, begins)) turn.small fits in
      turn_last (Ok next) last (cond-false _ _ _ some
      ∙ cond-true _ _ _ (lt-ltb (value + 2 ^ shift * digits) (2 ^ size) below) ∙ ap Ok (sym sum))

  pub turn-overflows : group ≡ digits → rejects strict shift digits ≡ false → (placed / 2 ^ shift ≡ digits → ⊥)
      → Reads K (groups_decoder strict K.order field size (2 ^ size)) s (Err VariableWidthOverflow) z
  turn-overflows last some lost =
      let past = placed_past size shift digits placed turn.shifted lost in
      let above : 2 ^ size ≤ value + 2 ^ shift * digits = omega (arith, past) in
      turn_last (Err VariableWidthOverflow) last (cond-false _ _ _ some
      ∙ cond-false _ _ _ (le-ltb (value + 2 ^ shift * digits) (2 ^ size) above))

  digits_below : digits < 2 ^ m
  digits_below = let low = turn.low in omega (arith, low, mod-lt group (pow_pos m))

  pub turn-told : (group ≡ digits → ⊥) → Told K strict field size (2 ^ size) s next (shift + m) z
  turn-told more =
      let wide = turn.wide in
      let payload = turn.payload in
      let g = group_more field m group digits payload (omega (arith, wide)) turn.low
      (unsigned-below K.order size field group turn.read) more in
      let on : Told K strict field size (2 ^ size) s (value + 2 ^ shift * digits) (shift + m) z =
      subst (λ k. Told K strict field size (2 ^ size) s (value + 2 ^ shift * digits) (shift + k) z) (sym payload)
      (subst (λ d. Told K strict field size (2 ^ size) s (value + 2 ^ shift * d) (shift + (field - 1)) z) g.1
      (told-more K strict field size (2 ^ size) wide turn.within s t z value shift turn.begins turn.told group g.0
      turn.read)) in
      elim (cases_lt (2 ^ shift * digits) (2 ^ size)) [
        | inl fits ↦ subst (λ v. Told K strict field size (2 ^ size) s v (shift + m) z)
            (sym (placed_sum size shift value digits placed next turn.small fits turn.shifted turn.joined)) on
        | inr past ↦ told-any K strict field size (2 ^ size) s z (value + 2 ^ shift * digits) next (shift + m)
            (none_behind size shift m digits digits_below past) on
      ]

  pub turn-below : next < 2 ^ (shift + m)
  turn-below =
      let small = turn.small in
      elim (cases_lt (2 ^ shift * digits) (2 ^ size)) [
        | inl fits ↦ subst (λ v. v < 2 ^ (shift + m)) (sym
            (placed_sum size shift value digits placed next small fits turn.shifted turn.joined))
            (stays_below shift m value digits digits_below small)
        | inr past ↦
            let n = shift + m in
            let le : size ≤ n = none_behind size shift m digits digits_below past in
            let more : shift ≤ n = omega arith in
            let whole : 2 ^ size ≤ 2 ^ n = pow-le-pow_right (omega arith) le in
            let part : 2 ^ shift ≤ 2 ^ n = pow-le-pow_right (omega arith) more in
            let shifted = turn.shifted in
            let p : placed < 2 ^ n = omega (arith, shifted, mod-lt (digits * 2 ^ shift) (pow_pos size), whole) in
            let v : value < 2 ^ n = omega (arith, small, part) in
            subst (λ k. k < 2 ^ n) (sym turn.joined) (or_lt n value placed v p)
      ]

-- ---- a smaller limit

below-limited : (limit most : ℕ) → limit ≤ most → (prefix : Prefix ℕ)
    → prefix_then (below most prefix) (λ n v. Done 0 (number_below limit v)) ≡ below limit prefix
below-limited limit most le Incomplete = refl
below-limited limit most le (Done n (Err e)) = refl
below-limited limit most le (Done n (Ok v)) = elim (cases_lt v most) [
  | inl less ↦ rw (lt-ltb v most less) (ap (λ k. Done k (number_below limit v)) (add-zero n))
  | inr past ↦ let above : limit ≤ v = omega arith in rw (le-ltb v most past, le-ltb v limit above) refl
]

limited : (strict : Bool) (o : Order) (field size limit most : ℕ) → limit ≤ most
    → Same (and_then (groups_decoder strict o field size most) (λ v. answers (number_below limit v)))
    (groups_decoder strict o field size limit)
unfolding and_then groups_decoder
limited strict o field size limit most le = record {
  reads = λ p bits. below-limited limit most le
      (groups_at strict (div_ceil size (field - 1)) o field bits);
  on_failed = refl;
}

module _ {R : Type 0} {K : BitSource R} (strict : Bool) (o : Order) (field size limit most : ℕ) (le : limit ≤ most)
    {s t : R} where
  pub limit-stops : (x : Error) → Reads K (groups_decoder strict o field size most) s (Err x) t
      → Reads K (groups_decoder strict o field size limit) s (Err x) t
  limit-stops x h = Reads-same (limited strict o field size limit most le)
      (Reads-and_then-err _ (λ v. answers (number_below limit v)) h)

  limit-tells : (v : ℕ) → Reads K (groups_decoder strict o field size most) s (Ok v) t
      → Reads K (groups_decoder strict o field size limit) s (number_below limit v) t
  limit-tells v h = Reads-same (limited strict o field size limit most le)
      (Reads-and_then-ok _ (λ k. answers (number_below limit k)) h
      (Reads-answers (number_below limit v) t (short_number (ltb v limit) v)))

  pub limit-holds : (v : ℕ) → v < limit → Reads K (groups_decoder strict o field size most) s (Ok v) t
      → Reads K (groups_decoder strict o field size limit) s (Ok v) t
  limit-holds v less h = subst (λ r. Reads K (groups_decoder strict o field size limit) s r t)
      (cond-true _ _ _ (lt-ltb v limit less)) (limit-tells v h)

  pub limit-passed : (v : ℕ) → limit ≤ v → Reads K (groups_decoder strict o field size most) s (Ok v) t
      → Reads K (groups_decoder strict o field size limit) s (Err VariableWidthOverflow) t
  limit-passed v past h = subst (λ r. Reads K (groups_decoder strict o field size limit) s r t)
      (cond-false _ _ _ (le-ltb v limit past)) (limit-tells v h)

-- ---- signed numbers

module _ {R : Type 0} {K : BitSource R} (strict : Bool) (o : Order) (field size n : ℕ) (same : n ≡ size)
    {s t : R} where
  pub signed_vbr-stops : (x : Error) → Reads K (groups_decoder strict o field n (2 ^ n)) s (Err x) t
      → Reads K (signed_groups_decoder strict o field size) s (Err x) t
  unfolding signed_groups_decoder
  signed_vbr-stops x h = Reads-and_then-err _ (λ v. pure (zag v))
      (subst (λ k. Reads K (groups_decoder strict o field k (2 ^ k)) s (Err x) t) same h)

  pub signed_vbr-takes : (v : ℕ) (x : ℤ) → x ≡ zag v → Reads K (groups_decoder strict o field n (2 ^ n)) s (Ok v) t
      → Reads K (signed_groups_decoder strict o field size) s (Ok x) t
  unfolding signed_groups_decoder
  signed_vbr-takes v x is h =
      subst (λ y. Reads K (and_then (groups_decoder strict o field size (2 ^ size)) (λ k. pure (zag k))) s (Ok y) t)
      (sym is) (Reads-and_then-ok _ (λ k. pure (zag k))
      (subst (λ k. Reads K (groups_decoder strict o field k (2 ^ k)) s (Ok v) t) same h) (Reads-pure (zag v) t))
